-- Where each order comes from that there is after a machine entered a status, and after each step.
use Rattle.std.{proofs.Common.{◌≡◌, ◌+◌, ℕ, List, refl, sym, ap, ◌∙◌, inl, inr}, specs.Prelude.{Option, Some, None, false, not, ◌==◌}}
use Rattle.hall_types.specs.Rows.{at, numbers, put}
use Rattle.hall_types.specs.declared.kinds.Outcome.TheVariants as outcome
use Rattle.hall_laws.{specs.{Prelude.{Hall, waits, Rows, put_cases, where_found, RowWrite, Withdrawn, Outcome, Order, Content, Event, Entered, cleared, stage_for, IsSound, row_at}, HallLaws.{orders_first, queued}, Writes.{CauseOf, First, IsEntering, boot_first, nothing_first, order_first, withdrawn_at}}, proofs.{Effects.{Effect, edits, enters, goes, idles, issues, leaves, makes, notes}, Enterings.queued_number}}

-- it is queued now, it is as it was, it is withdrawn now, or it is answered now
pub data OrderWas (h : Hall) (first : First) (new : Entered) (n : ℕ) (o : Order) : Type 0 where
  queued_now : (q : Order) → new.order ≡ Some q → n ≡ q.number → o ≡ q → OrderWas h first new n o
  stays_order : at h.orders n ≡ Some o → OrderWas h first new n o
  withdrawn_now : (k : Order) → at h.orders n ≡ Some k → o ≡ record k { stage = Withdrawn } → OrderWas h first new n o
  answered_now : (k : Order) (outcome : Outcome) → first ≡ order_first k outcome → at h.orders n ≡ Some k → o ≡ record k { stage = stage_for outcome } → OrderWas h first new n o

module _ (h : Hall) (s : IsSound h) (e : Event) (moment : ℕ) (rows : List RowWrite) (content : Content) (x : IsEntering h e moment rows content) (n : ℕ) (o : Order) where
  -- of the orders before, the one that waited is withdrawn
  withdrawn_cases : (w : Option Order) → row_at h.orders x.machine.waiting ≡ w → at (cleared w h.orders) n ≡ Some o → OrderWas h x.first x.new n o
  withdrawn_cases None waits is = stays_order is
  withdrawn_cases (Some k) waits is = elim (put_cases h.orders k.number (record k { stage = Withdrawn }) n o is) [
    | inl c ↦ withdrawn_now k (ap (at h.orders) c.0 ∙ known x.machine.waiting waits) c.1
    | inr c ↦ stays_order c.1
  ]
    where
      known : (number : Option ℕ) → row_at h.orders number ≡ Some k → at h.orders k.number ≡ Some k
      known None there = cc
      known (Some number) there = ap (at h.orders) (s.keyed.orders number k there) ∙ there

  first_cases : (first : First) → x.first ≡ first → CauseOf h e moment content x.machine x.entering x.signal first → at (cleared (withdrawn_at h x.machine first) (orders_first first h.orders)) n ≡ Some o → OrderWas h x.first x.new n o
  first_cases nothing_first same cause is = withdrawn_cases (row_at h.orders x.machine.waiting) refl is
  first_cases (boot_first b progress) same cause is = withdrawn_cases (row_at h.orders x.machine.waiting) refl is
  first_cases (order_first k outcome) same cause is = elim (put_cases h.orders k.number (record k { stage = stage_for outcome }) n o is) [
    | inl c ↦ answered_now k outcome same (ap (at h.orders) c.0 ∙ cause.2.recorded) c.1
    | inr c ↦ stays_order c.1
  ]

  queued_cases : (q : Option Order) → x.new.order ≡ q → (orders : Rows numbers Order) → at (queued q orders) n ≡ Some o → (at orders n ≡ Some o → OrderWas h x.first x.new n o) → OrderWas h x.first x.new n o
  queued_cases None same orders is rest = rest is
  queued_cases (Some q) same orders is rest = elim (put_cases orders q.number q n o is) [ inl c ↦ queued_now q same c.0 c.1 | inr c ↦ rest c.1 ]

  pub entry_orders : at (queued x.new.order (cleared (withdrawn_at h x.machine x.first) (orders_first x.first h.orders))) n ≡ Some o → OrderWas h x.first x.new n o
  entry_orders is = queued_cases x.new.order refl (cleared (withdrawn_at h x.machine x.first) (orders_first x.first h.orders)) is (first_cases x.first refl x.cause)

-- ---- after each step

pub not_waiting : (its : Outcome) → waits (stage_for its) ≡ false
not_waiting outcome.Done = refl
not_waiting outcome.Failed = refl

-- it is as it was, it is queued with a new number, or it doesn't wait
pub data OrderNow (h : Hall) (e : Event) (moment : ℕ) (content : Content) (g : Hall) (n : ℕ) (o : Order) : Type 0 where
  same_order : at h.orders n ≡ Some o → OrderNow h e moment content g n o
  queued_order : (rows : List RowWrite) (x : IsEntering h e moment rows content) (q : Order) → x.new.order ≡ Some q → n ≡ h.last.order + 1 → o ≡ q → g.machines ≡ put x.new.machine.id x.new.machine h.machines → OrderNow h e moment content g n o
  settled_order : (k : Order) → at h.orders n ≡ Some k → waits o.stage ≡ false → OrderNow h e moment content g n o

module _ (h : Hall) (s : IsSound h) (e : Event) (moment : ℕ) (fresh : List ℕ) (content : Content) (g : Hall) where
  pub order_now : Effect h e moment fresh content g → (n : ℕ) (o : Order) → at g.orders n ≡ Some o → OrderNow h e moment content g n o
  order_now (leaves quiet has) n o is = same_order (ap (λ x. at x n) (sym has.orders) ∙ is)
  order_now (makes event m new next has) n o is = same_order (ap (λ x. at x n) (sym has.orders) ∙ is)
  order_now (issues rows x has) n o is = same_order (ap (λ x. at x n) (sym has.orders) ∙ is)
  order_now (enters rows x has) n o is = by (entry_orders h s e moment rows content x n o (ap (λ x. at x n) (sym has.orders) ∙ is))
    where
      by : OrderWas h x.first x.new n o → OrderNow h e moment content g n o
      by (queued_now q queue number its) = queued_order rows x q queue (number ∙ queued_number h e moment rows content x q queue) its has.machines
      by (stays_order there) = same_order there
      by (withdrawn_now k there its) = settled_order k there (ap (λ (y : Order). waits y.stage) its)
      by (answered_now k outcome first there its) = settled_order k there (ap (λ (y : Order). waits y.stage) its ∙ not_waiting outcome)
  order_now (notes rows x has) n o is = same_order (ap (λ x. at x n) (sym has.orders) ∙ is)
  order_now (idles rows x has) n o is = elim (put_cases h.orders x.order.number (record x.order { stage = stage_for x.outcome }) n o (ap (λ x. at x n) (sym has.orders) ∙ is)) [
    | inl w ↦ settled_order x.order (ap (at h.orders) w.0 ∙ x.cause.recorded) (ap (λ (y : Order). waits y.stage) w.1 ∙ not_waiting x.outcome)
    | inr w ↦ same_order w.1
  ]
  order_now (edits command rows x has) n o is = same_order (ap (λ x. at x n) (sym has.orders) ∙ is)
  order_now (goes command id deletes has) n o is = same_order (where_found (λ (x : Order). not (x.machine == id)) h.orders n o (ap (λ x. at x n) (sym has.orders) ∙ is)).0
