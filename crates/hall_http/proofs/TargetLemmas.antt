-- Percent-encoded colons, from the left.
use Rattle.std.{proofs.{Common.{◌≡◌, ℕ, true, false, List, [], ◌∷◌, ◌++◌, length, drop, slice_index, refl, sym, ap, ◌∙◌, append_assoc, arith}, lemmas.{Bool.eqb-true, List.append-nil}}, specs.Prelude.◌==◌}
use Rattle.hall_http.specs.Target.{with_colons, begins_with_coded_colon}

pub coded_first : (rest : List ℕ) → begins_with_coded_colon rest ≡ true → with_colons rest ≡ 58 ∷ with_colons (drop 3 rest)
unfolding with_colons
coded_first (a ∷ b ∷ c ∷ octets) h = rw h refl
coded_first others h = absurd cc

pub other_first : (rest : List ℕ) → (length rest == 0) ≡ false → begins_with_coded_colon rest ≡ false → with_colons rest ≡ slice_index rest 0 ∷ with_colons (drop 1 rest)
unfolding with_colons
other_first [] some h = absurd cc
other_first (a ∷ b ∷ c ∷ octets) some h = rw h refl
other_first others some h = refl

none_last : (rest : List ℕ) → length rest ≡ 0 → with_colons rest ≡ []
unfolding with_colons
none_last [] h = refl
none_last (a ∷ rest) h = absurd (omega arith)

-- an octet is written, and the others are left
pub goes_on : (octets written rest others text : List ℕ) (octet : ℕ) → written ≡ octets ++ octet ∷ [] → with_colons rest ≡ octet ∷ with_colons others
    → octets ++ with_colons rest ≡ with_colons text → written ++ with_colons others ≡ with_colons text
goes_on octets written rest others text octet w first before =
    rw w (append_assoc octets (octet ∷ []) (with_colons others) ∙ sym (ap (λ (more : List ℕ). octets ++ more) first) ∙ before)

-- nothing is left
pub ends : (octets rest text : List ℕ) → (length rest == 0) ≡ true → octets ++ with_colons rest ≡ with_colons text → octets ≡ with_colons text
ends octets rest text none before =
    sym (append-nil octets) ∙ sym (ap (λ (more : List ℕ). octets ++ more) (none_last rest (eqb-true (length rest) 0 none))) ∙ before
