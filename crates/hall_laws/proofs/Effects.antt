-- What a step does to the machines, the boots, the orders and the last numbers.
use Rattle.std.{specs.Prelude.{◌≡◌, ℕ, not, ◌==◌, true, List, [], ◌∷◌, Some, None}, proofs.Common.{refl, sym, ap, subst, inl, inr, ◌∙◌}}
use Rattle.hall_types.specs.Rows.{numbers, put}
use Rattle.hall_types.specs.declared.change.RowWrite.TheVariants as write
use Rattle.boot_desk.specs.Fetch.{booted}
use Rattle.hall_laws.specs.{Prelude.{applied_append, Hall, applied, stage_after, next_number, Rows, gone, rows_where, Boot, RowWrite, Machine, Numbers, Order, blank_machine, Content, counted, Event, cleared, new_boot, idle, stage_for, IsSound, receipt_of}, Decision.{Decided, decision_of}, Step.{IsStep, Step}, HallLaws.{applied_entry, aside_hall, boots_first, edited_hall, entered_hall, last_queued, orders_first, queued}, Writes.{IsDeleting, IsEditing, IsEntering, IsIdled, IsIssuing, IsNoted, AsksForMachine, Writes, WritesAll, edits_machine, ends_waiting, enters_status, is_command, issues_boot, machine_goes, makes_machine, notes_report, with_receipt, withdrawn_at, without_receipt, writes_aside, writes_nothing}, WritesLaws.decision_writes}

-- the hall's machines, boots, orders and last numbers are these
pub record Has (g : Hall) (of_machines : Rows numbers Machine) (of_boots : Rows numbers Boot) (of_orders : Rows numbers Order) (of_last : Numbers) : Type 0 where
  pub machines : g.machines ≡ of_machines
  pub boots : g.boots ≡ of_boots
  pub orders : g.orders ≡ of_orders
  pub last : g.last ≡ of_last

pub data Effect (h : Hall) (e : Event) (moment : ℕ) (fresh : List ℕ) (content : Content) (g : Hall) : Type 0 where
  leaves : (content ≡ counted → is_command e ≡ true) → Has g h.machines h.boots h.orders h.last → Effect h e moment fresh content g
  makes : AsksForMachine e → (m : Machine) → m ≡ blank_machine m.id m.arch m.pool m.uuid → next_number h.last.machine ≡ Some m.id
      → Has g (put m.id m h.machines) h.boots h.orders (record h.last { machine = m.id }) → Effect h e moment fresh content g
  issues : (rows : List RowWrite) (x : IsIssuing h e fresh rows)
      → Has g (put x.machine.id (booted x.number x.machine) h.machines) (put x.number (new_boot x.number x.machine x.purpose fresh) h.boots) h.orders (record h.last { boot = x.number })
      → Effect h e moment fresh content g
  enters : (rows : List RowWrite) (x : IsEntering h e moment rows content)
      → Has g (put x.new.machine.id x.new.machine h.machines) (boots_first x.first h.boots) (queued x.new.order (cleared (withdrawn_at h x.machine x.first) (orders_first x.first h.orders))) (last_queued x.new.order h.last x.new.numbers)
      → Effect h e moment fresh content g
  notes : (rows : List RowWrite) (x : IsNoted h e rows content)
      → Has g h.machines (put x.boot.number (record x.boot { stage = stage_after x.progress }) h.boots) h.orders h.last → Effect h e moment fresh content g
  idles : (rows : List RowWrite) (x : IsIdled h e rows content)
      → Has g (put x.machine.id (idle x.machine) h.machines) h.boots (put x.order.number (record x.order { stage = stage_for x.outcome }) h.orders) h.last → Effect h e moment fresh content g
  edits : is_command e ≡ true → (rows : List RowWrite) (x : IsEditing h rows)
      → Has g (put x.after.id x.after h.machines) h.boots h.orders h.last → Effect h e moment fresh content g
  goes : is_command e ≡ true → (id : ℕ) → IsDeleting h e id
      → Has g (gone id h.machines) (rows_where (λ b. not (b.machine == id)) h.boots) (rows_where (λ o. not (o.machine == id)) h.orders) h.last → Effect h e moment fresh content g

has_by : (g g' : Hall) (machines : Rows numbers Machine) (boots : Rows numbers Boot) (orders : Rows numbers Order) (last : Numbers) → g ≡ g' → Has g' machines boots orders last → Has g machines boots orders last
has_by g g' machines boots orders last is has = subst (λ x. Has x machines boots orders last) (sym is) has

-- one hall's effect is another's, if the tables are the same
module _ (h : Hall) (e : Event) (moment : ℕ) (fresh : List ℕ) (content : Content) where
  rows_effect : (rows : List RowWrite) → Writes h e moment fresh rows content → Effect h e moment fresh content (applied rows h)
  rows_effect rows (writes_nothing quiet is) =
      leaves (λ its. absurd (quiet its)) (has_by (applied rows h) h _ _ _ _ (ap (λ ws. applied ws h) is) (record { machines = refl; boots = refl; orders = refl; last = refl }))
  rows_effect rows (makes_machine by x) =
      makes by x.machine x.new x.next (has_by (applied rows h) _ _ _ _ _ (ap (λ ws. applied ws h) x.rows_are) (record { machines = refl; boots = refl; orders = refl; last = refl }))
  rows_effect rows (issues_boot x) =
      issues rows x (has_by (applied rows h) _ _ _ _ _ (ap (λ ws. applied ws h) x.rows_are) (record { machines = refl; boots = refl; orders = refl; last = refl }))
  rows_effect rows (enters_status x) =
      enters rows x (has_by (applied rows h) (entered_hall h x.first (withdrawn_at h x.machine x.first) x.new) _ _ _ _
      (ap (λ ws. applied ws h) x.rows_are ∙ applied_entry h x.first x.machine (withdrawn_at h x.machine x.first) x.new) (record { machines = refl; boots = refl; orders = refl; last = refl }))
  rows_effect rows (notes_report x) =
      notes rows x (has_by (applied rows h) _ _ _ _ _ (ap (λ ws. applied ws h) x.rows_are) (record { machines = refl; boots = refl; orders = refl; last = refl }))
  rows_effect rows (ends_waiting x) =
      idles rows x (has_by (applied rows h) _ _ _ _ _ (ap (λ ws. applied ws h) x.rows_are) (record { machines = refl; boots = refl; orders = refl; last = refl }))
  rows_effect rows (edits_machine by x) =
      edits by rows x (has_by (applied rows h) _ _ _ _ _ (ap (λ ws. applied ws h) x.rows_are ∙ edited_hall h x.machine x.after x.interfaces x.edits) (record { machines = refl; boots = refl; orders = refl; last = refl }))
  rows_effect rows (machine_goes id by is) =
      goes (ap is_command by.event_is) id by (has_by (applied rows h) _ _ _ _ _ (ap (λ ws. applied ws h) is) (record { machines = refl; boots = refl; orders = refl; last = refl }))
  rows_effect rows (writes_aside by x) =
      leaves (λ its. by) (has_by (applied rows h) _ _ _ _ _ (ap (λ ws. applied ws h) x.rows_are ∙ aside_hall h e x.row x.aside) (record { machines = refl; boots = refl; orders = refl; last = refl }))

  -- an effect is one on each hall with the same four tables
  effect_on : (g g' : Hall) → g'.machines ≡ g.machines → g'.boots ≡ g.boots → g'.orders ≡ g.orders → g'.last ≡ g.last → Effect h e moment fresh content g → Effect h e moment fresh content g'
  effect_on g g' mm bb oo nn effect = by effect
    where
      on : (machines : Rows numbers Machine) (boots : Rows numbers Boot) (orders : Rows numbers Order) (last : Numbers) → Has g machines boots orders last → Has g' machines boots orders last
      on machines boots orders last has = record { machines = mm ∙ has.machines; boots = bb ∙ has.boots; orders = oo ∙ has.orders; last = nn ∙ has.last }

      by : Effect h e moment fresh content g → Effect h e moment fresh content g'
      by (leaves quiet has) = leaves quiet (on _ _ _ _ has)
      by (makes event m new next has) = makes event m new next (on _ _ _ _ has)
      by (issues rows x has) = issues rows x (on _ _ _ _ has)
      by (enters rows x has) = enters rows x (on _ _ _ _ has)
      by (notes rows x has) = notes rows x (on _ _ _ _ has)
      by (idles rows x has) = idles rows x (on _ _ _ _ has)
      by (edits command rows x has) = edits command rows x (on _ _ _ _ has)
      by (goes command id deletes has) = goes command id deletes (on _ _ _ _ has)

-- the effect of a decision
pub decision_effect : (h : Hall) (e : Event) (moment : ℕ) (fresh : List ℕ) (d : Decided) → WritesAll h e moment fresh d → Effect h e moment fresh d.content (applied d.rows h)
decision_effect h e moment fresh d (without_receipt none w) = rows_effect h e moment fresh d.content d.rows w
decision_effect h e moment fresh d (with_receipt own w x) =
    subst (λ g. Effect h e moment fresh d.content g) (sym (ap (λ ws. applied ws h) x.rows_are ∙ applied_append own (write.PutReceipt (receipt_of x.operator x.key x.command d.content) ∷ []) h))
    (effect_on h e moment fresh d.content (applied own h) (applied (write.PutReceipt (receipt_of x.operator x.key x.command d.content) ∷ []) (applied own h)) refl refl refl refl (rows_effect h e moment fresh d.content own w))

-- ---- steps

abbrev pub decided : Step → Decided
decided s = decision_of s.arrival.site s.before s.arrival.event s.arrival.moment s.arrival.fresh

-- a step came and did this, or it missed
pub data StepDoes (s : Step) : Type 0 where
  did : s.answer ≡ Some (decided s).content → s.after ≡ applied (decided s).rows s.before
      → WritesAll s.before s.arrival.event s.arrival.moment s.arrival.fresh (decided s)
      → Effect s.before s.arrival.event s.arrival.moment s.arrival.fresh (decided s).content s.after → StepDoes s
  missed : s.answer ≡ None → s.after ≡ s.before → StepDoes s

pub step_does : (s : Step) → IsStep s → IsSound s.before → StepDoes s
step_does s (inl came) sound =
    let w = decision_writes s.arrival.site s.before sound s.arrival.event s.arrival.moment s.arrival.fresh in
    did came.answer came.after w (subst (λ g. Effect s.before s.arrival.event s.arrival.moment s.arrival.fresh (decided s).content g) (sym came.after) (decision_effect s.before s.arrival.event s.arrival.moment s.arrival.fresh (decided s) w))
step_does s (inr none) sound = missed none.answer none.after
