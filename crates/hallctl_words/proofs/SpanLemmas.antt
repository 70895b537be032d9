-- Numbers one after another.
use Rattle.std.proofs.Common.{◌≡◌, ℕ, suc, zero, ◌+◌, ◌-◌, ◌<◌, List, [], ◌∷◌, ◌++◌, refl, sym, ◌∙◌, ap, append_assoc, arith}
use Rattle.hallctl_words.specs.Spans.{numbers_from}

-- some numbers are the first of them and the others
pub numbers_from-step : (first count rest : ℕ) → count ≡ rest + 1 → numbers_from first count ≡ first ∷ numbers_from (first + 1) rest
numbers_from-step first zero rest e = absurd (omega (arith, e))
numbers_from-step first (suc count) rest e = let same : count ≡ rest = omega (arith, e) in rw same refl

-- with the number i of a span added, the others come after it
pub pushed : (machines : List ℕ) (first count i : ℕ) → i < count → (machines ++ (first + i) ∷ []) ++ numbers_from (first + (i + 1)) (count - (i + 1)) ≡ machines ++ numbers_from (first + i) (count - i)
pushed machines first count i h =
    let left : count - i ≡ (count - (i + 1)) + 1 = omega (arith, h) in
    let next : first + i + 1 ≡ first + (i + 1) = omega arith in
    append_assoc machines ((first + i) ∷ []) (numbers_from (first + (i + 1)) (count - (i + 1)))
    ∙ ap (λ rest. machines ++ rest) (sym (numbers_from-step (first + i) (count - i) (count - (i + 1)) left ∙ ap (λ from. (first + i) ∷ numbers_from from (count - (i + 1))) next))
