-- What tables hold, by computation.
use Rattle.std.{proofs.{Common.{◌≡◌, ℕ, true, List, [], refl, sym, ap, ◌∙◌, map, length}, lemmas.List.nil_from_length}, specs.{FinMap.{get-entries, entries-insert, len-empty, len-entries}, Str.bytes_eq}}
use Rattle.std.specs.FinMap as finite
use Rattle.hall_laws.specs.Prelude.{same-key, same_text, Keys, Rows}
use Rattle.hall_types.specs.Rows.{at, put, no_rows, listed, size, texts}

-- the rows with their keys, in order
abbrev pub entries : {K X : Type 0} {keys : Keys K} → Rows keys X → List (K × X)
entries rows = finite.entries rows.map

module _ {K X : Type 0} {keys : Keys K} where
  pub entries-none : (none : Rows keys X) → none ≡ no_rows → entries none ≡ []
  unfolding no_rows
  entries-none none is = nil_from_length _ (ap (λ (rows : Rows keys X). length (entries rows)) is ∙ (sym (len-entries finite.empty) ∙ len-empty keys.cmp X))

  pub entries-put : (rows : Rows keys X) (key : K) (row : X) → entries (put key row rows) ≡ finite.put keys.cmp key row (entries rows)
  unfolding put
  entries-put rows key row = entries-insert keys.total rows.map key row

  pub at-entries : (rows : Rows keys X) (key : K) → at rows key ≡ finite.find keys.cmp key (entries rows)
  unfolding at
  at-entries rows key = get-entries rows.map key

  pub listed-entries : (rows : Rows keys X) → listed rows ≡ map (λ (e : K × X). e.1) (entries rows)
  unfolding listed
  listed-entries rows = refl

  pub size-entries : (rows : Rows keys X) → size rows ≡ length (entries rows)
  unfolding size
  size-entries rows = len-entries rows.map

-- octets are the same as themselves
pub bytes_eq-itself : (octets : List ℕ) → bytes_eq octets octets ≡ true
bytes_eq-itself octets = sym (same_text octets octets) ∙ same-key texts octets

pub ruleset computed = (entries-none, entries-put, at-entries, listed-entries, size-entries)
