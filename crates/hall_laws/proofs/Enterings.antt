-- What a machine that enters a status keeps, and what the last numbers are then.
use Rattle.std.{proofs.Common.{◌≡◌, ◌≢◌, ◌≤◌, ◌+◌, ℕ, List, refl, sym, ap, ◌∙◌, inl, inr, arith}, specs.Prelude.{Option, Some, None}}
use Rattle.hall_types.specs.declared.act.Act.TheVariants as does
use Rattle.hall_events.specs.declared.command.MachineCommand.TheVariants as on
use Rattle.life_cycle.specs.{Entering.boot_after, EnteringLaws.entered-machine}
use Rattle.boot_desk.specs.EntryLaws.{next_is}
use Rattle.hall_laws.specs.{Prelude.{Hall, next_version, RowWrite, Machine, Numbers, Operator, Order, Status, Content, MachineCommand, Event, entered-boot, entered-id, entered-numbers, entered-order-queued, entered-status, steps_change_status, IsSound, prepared}, HallLaws.last_queued, Writes.{CauseOf, First, IsEntering, boot_first, nothing_first, order_first}}

-- the command sets neither the number, nor the status, nor the boot, nor the version
record SameWork (m n : Machine) : Type 0 where
  id : n.id ≡ m.id
  status : n.status ≡ m.status
  boot : n.boot ≡ m.boot
  version : n.version ≡ m.version

same_work : (m n : Machine) → n ≡ m → SameWork m n
same_work m n is = record {
  id = ap (λ (x : Machine). x.id) is;
  status = ap (λ (x : Machine). x.status) is;
  boot = ap (λ (x : Machine). x.boot) is;
  version = ap (λ (x : Machine). x.version) is;
}

prepared_same : (command : MachineCommand) (o : Operator) (m : Machine) → SameWork m (prepared command o m)
prepared_same (on.Commission tests) o m = record { id = refl; status = refl; boot = refl; version = refl }
prepared_same (on.Act does.Allocate) o m = record { id = refl; status = refl; boot = refl; version = refl }
prepared_same other o m = record { id = refl; status = refl; boot = refl; version = refl }

module _ (h : Hall) (e : Event) (moment : ℕ) (rows : List RowWrite) (content : Content) (x : IsEntering h e moment rows content) where
  entering_same : SameWork x.machine x.entering
  entering_same = by x.first x.cause
    where
      by_set : (command : MachineCommand) (o : Operator) → x.entering ≡ prepared command o x.machine → SameWork x.machine x.entering
      by_set command o is =
          let p = prepared_same command o x.machine in
          record {
            id = ap (λ (m : Machine). m.id) is ∙ p.id;
            status = ap (λ (m : Machine). m.status) is ∙ p.status;
            boot = ap (λ (m : Machine). m.boot) is ∙ p.boot;
            version = ap (λ (m : Machine). m.version) is ∙ p.version;
          }

      by : (first : First) → CauseOf h e moment content x.machine x.entering x.signal first → SameWork x.machine x.entering
      by nothing_first (inl c) = by_set c.command c.operator c.sets
      by nothing_first (inr c) = same_work x.machine x.entering c.0
      by (boot_first b progress) c = same_work x.machine x.entering c.0
      by (order_first o outcome) c = same_work x.machine x.entering c.0

  pub new_id : x.new.machine.id ≡ x.machine.id
  new_id = entered-id x.entering x.step moment h.last x.new x.enters ∙ entering_same.id

  pub new_status : x.new.machine.status ≡ x.step.status
  new_status = entered-status x.entering x.step moment h.last x.new x.enters

  pub new_version : x.new.machine.version ≡ next_version x.machine.version
  new_version =
      ap (λ (m : Machine). m.version) (entered-machine x.entering x.step moment h.last x.new x.enters) ∙ ap next_version entering_same.version

  pub new_boot_is : x.new.machine.boot ≡ boot_after x.machine.status x.step.status x.machine.boot
  new_boot_is =
      entered-boot x.entering x.step moment h.last x.new x.enters
      ∙ (ap (λ (s : Status). boot_after s x.step.status x.entering.boot) entering_same.status ∙ ap (boot_after x.machine.status x.step.status) entering_same.boot)

  -- the status is another one
  pub new_changes : IsSound h → x.new.machine.status ≢ x.machine.status
  new_changes s same =
      steps_change_status x.machine x.signal x.step (s.machines x.machine.id x.machine x.found).remembered x.leads (sym new_status ∙ same)

  -- ---- the last numbers

  pub last_machine_same : (last_queued x.new.order h.last x.new.numbers).machine ≡ h.last.machine
  last_machine_same = by x.new.order
    where
      by : (q : Option Order) → (last_queued q h.last x.new.numbers).machine ≡ h.last.machine
      by None = refl
      by (Some o) = ap (λ (n : Numbers). n.machine) (entered-numbers x.entering x.step moment h.last x.new x.enters)

  pub last_boot_same : (last_queued x.new.order h.last x.new.numbers).boot ≡ h.last.boot
  last_boot_same = by x.new.order
    where
      by : (q : Option Order) → (last_queued q h.last x.new.numbers).boot ≡ h.last.boot
      by None = refl
      by (Some o) = ap (λ (n : Numbers). n.boot) (entered-numbers x.entering x.step moment h.last x.new x.enters)

  pub queued_number : (q : Order) → x.new.order ≡ Some q → q.number ≡ h.last.order + 1
  queued_number q is = next_is h.last.order q.number (entered-order-queued x.entering x.step moment h.last x.new x.enters q is).number

  pub last_order_grows : h.last.order ≤ (last_queued x.new.order h.last x.new.numbers).order
  last_order_grows = by x.new.order refl
    where
      by : (q : Option Order) → x.new.order ≡ q → h.last.order ≤ (last_queued q h.last x.new.numbers).order
      by None is = omega arith
      by (Some o) is = omega (arith, queued_number o is, (entered-order-queued x.entering x.step moment h.last x.new x.enters o is).last)
