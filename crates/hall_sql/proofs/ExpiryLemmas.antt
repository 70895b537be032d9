-- The moment before which no machine expires, as halls change.
use Rattle.sql_schema.specs.Words.{of_machines, AllByRecursion, nat_tests, Hall, applied, written, StandUnder, next_expired, if_due, RowWrite, PutMachine, MachineGone, Machine, IsHeld, State}
use Rattle.std.proofs.Common.{◌≡◌, ◌≤◌, ◌<◌, ◌+◌, ℕ, List, [], ◌∷◌, Option, Some, None, refl, sym, ap, subst, ◌∙◌, arith}
use Rattle.hall_store.specs.{Expiry.IsEarliest, ExpiryLaws.{earliest_is, first_due, gone_earliest, lower_none, put_earliest}}
use Rattle.hall_sql.specs.Expiring.{PutsNoEarlier, earliest_of}

-- ---- what is written

written_earliest : (earliest : ℕ) (w : RowWrite) (h : Hall) → IsEarliest earliest h.machines → PutsNoEarlier earliest w → IsEarliest earliest (written w h).machines
written_earliest earliest (PutMachine m was) h is puts = put_earliest earliest h.machines is m puts
written_earliest earliest (MachineGone id) h is puts = gone_earliest earliest h.machines is id
written_earliest earliest w h is puts = is

pub applied_earliest : (earliest : ℕ) (ws : List RowWrite) (h : Hall) → IsEarliest earliest h.machines → AllByRecursion (PutsNoEarlier earliest) ws → IsEarliest earliest (applied ws h).machines
applied_earliest earliest [] h is puts = is
applied_earliest earliest (w ∷ ws) h is puts = applied_earliest earliest ws (written w h) (written_earliest earliest w h is puts.0) puts.1

pub lower_puts : (lower earliest : ℕ) (w : RowWrite) → lower ≤ earliest → PutsNoEarlier earliest w → PutsNoEarlier lower w
lower_puts lower earliest (PutMachine m was) low puts = lower_none lower earliest m low puts
lower_puts lower earliest w low puts = tt

-- ---- the first machine to expire of all

pub machines_under : (s : State) (h : Hall) → IsHeld s h → StandUnder (λ (m : Machine). m.id) h.machines
machines_under s h held = subst (λ (k : Hall). StandUnder (λ (m : Machine). m.id) k.machines) held.spelt.agrees.hall (held.spelt.tables.each of_machines).under

-- before the deadline of the first machine none is due
early : (moment : ℕ) (first : Option Machine) → moment < earliest_of first → if_due moment first ≡ None
early moment None low = refl
early moment (Some m) low = grind (arith, nat_tests)

-- which is no later than the moment after the last one
no_later : (first : Option Machine) → if_due 1000000000000 first ≡ first → earliest_of first ≤ 1000000000000 + 1
no_later None due = omega arith
no_later (Some m) due = grind (arith, nat_tests)

-- no deadline is earlier than that of the first machine to expire of all, nor, where none expires up to the last moment, than what comes after it
pub first_earliest : (h : Hall) (first : Option Machine) → next_expired h 1000000000000 ≡ first → IsEarliest (earliest_of first) h.machines
first_earliest h first is = earliest_is h (earliest_of first) (λ moment low.
    let last = no_later first (ap (if_due 1000000000000) (sym is) ∙ first_due h 1000000000000 1000000000000 (omega arith) ∙ is) in
    sym (first_due h moment 1000000000000 (omega arith)) ∙ ap (if_due moment) is ∙ early moment first low)
