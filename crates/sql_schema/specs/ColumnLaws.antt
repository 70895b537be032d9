-- Laws of what the tables store, for the proofs of callers: a value is stored by one kind only.
use Rattle.sql_schema.specs.Columns.{truth_number}
use Rattle.std.proofs.Common.{ℕ, ◌≡◌, Bool, true, false, Option, Some, refl, ◌↔◌}

pub same_truth : (a b : Bool) → truth_number a ≡ truth_number b → a ≡ b
same_truth true true e = refl
same_truth true false e = cc
same_truth false true e = cc
same_truth false false e = refl

-- a number is that of one kind
pub same_kind : {K : Type 0} {of_number : ℕ → Option K} {number_of : K → ℕ} → ((number : ℕ) (k : K) → (of_number number ≡ Some k) ↔ (number_of k ≡ number)) → (a b : K) → number_of a ≡ number_of b → a ≡ b
same_kind {number_of = number_of} by_number a b e =
    let one = (by_number (number_of b) a).1 e in
    let two = (by_number (number_of b) b).1 refl in
    cc
