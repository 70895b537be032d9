-- Which machine expires next, found among all of them.
use Rattle.std.{specs.Prelude.{◌≡◌, ◌<◌, ℕ, Some, None, unwrap_or}, proofs.{Common.{arith, ◌∙◌, ap}, lemmas.Bool.Decides.nat_tests}}
use Rattle.store_memory.specs.Prelude.{Hall, soonest, if_due, Machine, IsEarliest, earliest_is, soonest_due}
use Rattle.hall_types.specs.Rows.{listed}

early : (moment any : ℕ) (m : Machine) → moment < unwrap_or m.deadline any → if_due moment (Some m) ≡ None
early moment any m low = grind (arith, nat_tests)

-- the least deadline of all is none's after; where the first machine has no deadline, no machine has one
pub earliest_of : (h : Hall) (m : Machine) (any : ℕ) → soonest (listed h.machines) ≡ Some m → IsEarliest (unwrap_or m.deadline any) h.machines
earliest_of h m any first = earliest_is h (unwrap_or m.deadline any) (λ moment low. soonest_due moment (listed h.machines) ∙ ap (if_due moment) first ∙ early moment any m low)

-- and where there is no machine
pub earliest_empty : (h : Hall) (any : ℕ) → soonest (listed h.machines) ≡ None → IsEarliest any h.machines
earliest_empty h any none = earliest_is h any (λ moment low. soonest_due moment (listed h.machines) ∙ ap (if_due moment) none)
