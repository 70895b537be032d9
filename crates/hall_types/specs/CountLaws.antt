-- Rows one by one: induction over them, how counts move, and what a list of them holds.
use Rattle.std.{specs.{Prelude.{◌≡◌, ◌≢◌, ℕ, zero, suc, ◌+◌, is_some, not, List, [], ◌∷◌, Option, Some, None, Bool, true, false, if◌then◌else◌, length}, FinMap.{get-entries, len-entries, len-empty, empty_of_len}}, proofs.Common.{refl, arith, ◌∙◌, ap, sym, subst}}
use Rattle.std.specs.FinMap as map
use Rattle.hall_types.specs.{Rows.{Keys, Rows, passes, at, put, gone, no_rows, rows_where, same_key, one_if, size, how_many}, RowLaws.{key-same, same-key, at-put, at-gone, at-gone-same, at-no_rows, at-rows_where, same_rows, size-gone, rows_where-put, how_many-put, how_many-gone}}

not_suc : (n : ℕ) → suc n ≢ 0
not_suc n e = absurd (omega arith)

module _ {K X : Type 0} {keys : Keys K} where
  first_key : (rows : Rows keys X) → size rows ≢ 0 → (key : K) × (row : X) × (at rows key ≡ Some row)
  unfolding at size
  first_key rows some = by (map.entries rows.map) refl
    where
      by : (es : List (K × X)) → map.entries rows.map ≡ es → (key : K) × (row : X) × (at rows key ≡ Some row)
      by [] is = absurd (some (len-entries rows.map ∙ ap length is))
      by (e ∷ es) is =
          (e.0, e.1, get-entries rows.map e.0 ∙ (ap (map.find keys.cmp e.0) is ∙ ap (λ b. if b then Some e.1 else map.find keys.cmp e.0 es) (same-key keys e.0)))

  no_key : (rows : Rows keys X) → size rows ≡ 0 → rows ≡ no_rows
  unfolding size no_rows
  no_key rows none = ap (λ m. record { map = m }) (empty_of_len rows.map none)

  put_again : (rows : Rows keys X) (key : K) (row : X) → at rows key ≡ Some row → put key row (gone key rows) ≡ rows
  put_again rows key row there = same_rows (put key row (gone key rows)) rows (λ q. at-put (gone key rows) key row q ∙ by q (same_key keys q key) refl)
    where
      by : (q : K) (b : Bool) → same_key keys q key ≡ b → (if b then Some row else at (gone key rows) q) ≡ at rows q
      by q true t = sym (ap (λ k. at rows k) (key-same keys q key t) ∙ there)
      by q false t = at-gone rows key q ∙ ap (λ b. if b then None else at rows q) t

  -- rows that are put one by one: what holds of none, and of one more, holds of all
  pub rows_one_by_one : (P : Rows keys X → Type 0)
      → P no_rows
      → ((rows : Rows keys X) (key : K) (row : X) → at rows key ≡ None → P rows → P (put key row rows))
      → (rows : Rows keys X) → P rows
  rows_one_by_one P none more rows = upto (size rows) rows refl
    where
      upto : (n : ℕ) (rows : Rows keys X) → size rows ≡ n → P rows
      upto zero rows is = subst P (sym (no_key rows is)) none
      upto (suc n) rows is =
          let found = first_key rows (λ none. not_suc n (sym is ∙ none)) in
          let gone_one = size-gone rows found.0 in
          let counted = ap (λ o. one_if (is_some o)) found.2 in
          subst P (put_again rows found.0 found.1 found.2)
          (more (gone found.0 rows) found.0 found.1 (at-gone-same rows found.0) (upto n (gone found.0 rows) (fewer gone_one counted is)))
        where
          fewer : {a b c n : ℕ} → a + b ≡ c → b ≡ 1 → c ≡ suc n → a ≡ n
          fewer p q r = omega arith

  -- ---- counts

  nothing : (p : X → Bool) (none : Rows keys X) → none ≡ no_rows → rows_where p none ≡ no_rows
  nothing p none is = same_rows (rows_where p none) no_rows (λ q.
      at-rows_where p none q ∙ (ap (λ o. if passes p o then o else None) (at-no_rows keys q none is) ∙ sym (at-no_rows keys q no_rows refl)))

  how_many-none : (p : X → Bool) (none : Rows keys X) → none ≡ no_rows → how_many p none ≡ 0
  unfolding size no_rows
  how_many-none p none is = ap size (nothing p none is) ∙ len-empty keys.cmp X

  absent : (q : X → Bool) (rows : Rows keys X) (key : K) → at rows key ≡ None → at (rows_where q rows) key ≡ None
  absent q rows key new = at-rows_where q rows key ∙ ap (λ o. if passes q o then o else None) new

  -- a row that is put where none was is one more, if it passes
  pub how_many-new : (p : X → Bool) (rows : Rows keys X) (key : K) (row : X) → at rows key ≡ None → how_many p (put key row rows) ≡ how_many p rows + one_if (p row)
  how_many-new p rows key row new = let e = how_many-put p rows key row in let z = ap (λ o. one_if (passes p o)) new in omega arith

  how_many-absent : (p : X → Bool) (rows : Rows keys X) (key : K) → at rows key ≡ None → how_many p (gone key rows) ≡ how_many p rows
  how_many-absent p rows key new = let e = how_many-gone p rows key in let z = ap (λ o. one_if (passes p o)) new in omega arith

  -- of the rows that pass one test, some pass a second one too, and the others don't
  pub how_many-split : (p q : X → Bool) (rows : Rows keys X) →
      how_many p (rows_where q rows) + how_many p (rows_where (λ x. not (q x)) rows) ≡ how_many p rows
  how_many-split p q rows = rows_one_by_one (λ rows. how_many p (rows_where q rows) + how_many p (rows_where (λ x. not (q x)) rows) ≡ how_many p rows) (none no_rows refl) more rows
    where
      none : (empty : Rows keys X) → empty ≡ no_rows → how_many p (rows_where q empty) + how_many p (rows_where (λ x. not (q x)) empty) ≡ how_many p empty
      none empty is =
          let a = how_many-none p (rows_where q empty) (nothing q empty is) in
          let b = how_many-none p (rows_where (λ x. not (q x)) empty) (nothing (λ x. not (q x)) empty is) in
          let z = how_many-none p empty is in
          omega arith

      more : (rows : Rows keys X) (key : K) (row : X) → at rows key ≡ None
          → how_many p (rows_where q rows) + how_many p (rows_where (λ x. not (q x)) rows) ≡ how_many p rows
          → how_many p (rows_where q (put key row rows)) + how_many p (rows_where (λ x. not (q x)) (put key row rows)) ≡ how_many p (put key row rows)
      more rows key row new so_far = by (q row) refl
        where
          by : (b : Bool) → q row ≡ b → how_many p (rows_where q (put key row rows)) + how_many p (rows_where (λ x. not (q x)) (put key row rows)) ≡ how_many p (put key row rows)
          by true t =
              let one = how_many-new p rows key row new in
              let yes = ap (how_many p) (rows_where-put q rows key row ∙ ap (λ b. if b then put key row (rows_where q rows) else gone key (rows_where q rows)) t) in
              let yes_one = how_many-new p (rows_where q rows) key row (absent q rows key new) in
              let no = ap (how_many p) (rows_where-put (λ x. not (q x)) rows key row ∙ ap (λ b. if not b then put key row (rows_where (λ x. not (q x)) rows) else gone key (rows_where (λ x. not (q x)) rows)) t) in
              let no_one = how_many-absent p (rows_where (λ x. not (q x)) rows) key (absent (λ x. not (q x)) rows key new) in
              omega arith
          by false t =
              let one = how_many-new p rows key row new in
              let yes = ap (how_many p) (rows_where-put q rows key row ∙ ap (λ b. if b then put key row (rows_where q rows) else gone key (rows_where q rows)) t) in
              let yes_one = how_many-absent p (rows_where q rows) key (absent q rows key new) in
              let no = ap (how_many p) (rows_where-put (λ x. not (q x)) rows key row ∙ ap (λ b. if not b then put key row (rows_where (λ x. not (q x)) rows) else gone key (rows_where (λ x. not (q x)) rows)) t) in
              let no_one = how_many-new p (rows_where (λ x. not (q x)) rows) key row (absent (λ x. not (q x)) rows key new) in
              omega arith

-- ---- rows of which none is there, or none passes

pub none_size : {K X : Type 0} (keys : Keys K) → (none : Rows keys X) → none ≡ no_rows → size none ≡ 0
unfolding size no_rows
none_size {X = X} keys none is = ap (λ rows. size rows) is ∙ len-empty keys.cmp X

-- where no row passes, none are counted
pub none_pass : {K X : Type 0} {keys : Keys K} (p : X → Bool) (rows : Rows keys X) → ((key : K) (row : X) → at rows key ≡ Some row → p row ≡ false) → how_many p rows ≡ 0
none_pass {K = K} {X = X} {keys = keys} p rows fails =
    none_size keys (rows_where p rows) (same_rows (rows_where p rows) no_rows (λ q. at-rows_where p rows q ∙ (by q (at rows q) refl ∙ sym (at-no_rows keys q no_rows refl))))
  where
    by : (q : K) (o : Option X) → at rows q ≡ o → (if passes p o then o else None) ≡ None
    by q None is = refl
    by q (Some x) is = ap (λ b. if b then Some x else None) (fails q x is)
