-- Each move is counted on its way, and on no other one.
use Rattle.std.{specs.Prelude.{◌≡◌, ◌+◌, ◌-◌, ◌^◌, ◌<◌, ◌==◌, ℕ, Bool, true, false, List, [], ◌∷◌, Option, None, Some, cond, fold, min, slice_get, slice_set, unwrap_or}, proofs.{Common.{zero, suc, refl, sym, ap, subst, ◌∙◌, arith}, lemmas.{Bool.{Decides.nat_tests, eqb-true}, List.Sums.sum_by-cons}}}
use Rattle.hallview_state.specs.{Ways.{count_on, counted, counted_on, moves_on, way_of}, declared.{moves.Move.{Move}, ways.Ways.{Ways}}}

set_is_got : (xs : List ℕ) (i v was : ℕ) → slice_get xs i ≡ Some was → slice_get (slice_set xs i v) i ≡ Some v
set_is_got [] i v was is = absurd (cc is)
set_is_got (x ∷ xs) zero v was is = refl
set_is_got (x ∷ xs) (suc i) v was is = set_is_got xs i v was is

others_stay : (xs : List ℕ) (i k v : ℕ) → (i == k) ≡ false → slice_get (slice_set xs i v) k ≡ slice_get xs k
others_stay [] i k v other = refl
others_stay (x ∷ xs) zero zero v other = absurd (cc other)
others_stay (x ∷ xs) zero (suc k) v other = refl
others_stay (x ∷ xs) (suc i) zero v other = refl
others_stay (x ∷ xs) (suc i) (suc k) v other = others_stay xs i k v (grind (arith, nat_tests, other))

-- a move on another way
stays : (ways : Ways) (own way : ℕ) (found : Option ℕ) → (own == way) ≡ false → slice_get (counted_on ways own found).counts way ≡ slice_get ways.counts way
stays ways own way None other = refl
stays ways own way (Some count) other = others_stay ways.counts own way (min (count + 1) (2 ^ 64 - 1)) other

-- a move on this way
rises : (ways : Ways) (way count : ℕ) → slice_get ways.counts way ≡ Some count
    → slice_get (counted_on ways way (slice_get ways.counts way)).counts way ≡ Some (min (count + 1) (2 ^ 64 - 1))
rises ways way count is =
    ap (λ (found : Option ℕ). slice_get (counted_on ways way found).counts way) is ∙ set_is_got ways.counts way (min (count + 1) (2 ^ 64 - 1)) count is

-- what a way is counted to, by whether the first move is on it
counts : (ways : Ways) (move : Move) (way count : ℕ) (b : Bool) → (way_of move == way) ≡ b → slice_get ways.counts way ≡ Some count
    → slice_get (counted ways move).counts way ≡ Some (cond b (min (count + 1) (2 ^ 64 - 1)) count)
counts ways move way count true own is =
    subst (λ (at : ℕ). slice_get (counted_on ways at (slice_get ways.counts at)).counts way ≡ Some (min (count + 1) (2 ^ 64 - 1))) (sym (eqb-true (way_of move) way own)) (rises ways way count is)
counts ways move way count false other is = stays ways (way_of move) way (slice_get ways.counts (way_of move)) other ∙ is

added : (count more : ℕ) (b : Bool) → min (cond b (min (count + 1) (2 ^ 64 - 1)) count + more) (2 ^ 64 - 1) ≡ min (count + (cond b 1 0 + more)) (2 ^ 64 - 1)
added count more true = grind (arith)
added count more false = grind (arith)

below : (count : ℕ) (b : Bool) → count < 2 ^ 64 → cond b (min (count + 1) (2 ^ 64 - 1)) count < 2 ^ 64
below count true low = grind (arith, low)
below count false low = low

kept : (count : ℕ) → count < 2 ^ 64 → count ≡ min (count + 0) (2 ^ 64 - 1)
kept count low = grind (arith, low)

pub moves_are_counted : (ways : Ways) (moves : List Move) (way count : ℕ) → slice_get ways.counts way ≡ Some count → count < 2 ^ 64
    → count_on (fold counted ways moves) way ≡ min (count + moves_on way moves) (2 ^ 64 - 1)
moves_are_counted ways [] way count is low = ap (λ (found : Option ℕ). unwrap_or found 0) is ∙ kept count low
moves_are_counted ways (move ∷ moves) way count is low =
    let b = way_of move == way in
    moves_are_counted (counted ways move) moves way (cond b (min (count + 1) (2 ^ 64 - 1)) count) (counts ways move way count b refl is) (below count b low)
    ∙ added count (moves_on way moves) b
    ∙ ap (λ (more : ℕ). min (count + more) (2 ^ 64 - 1)) (sym (sum_by-cons (λ (one : Move). cond (way_of one == way) 1 0) move moves))
