-- Why no machine keeps the kind `quick` where no release asks for it.
use Rattle.std.{proofs.{Common.{◌≡◌, ◌≢◌, ℕ, List, [], ◌∷◌, ◌++◌, refl, sym, ap, subst, ◌∙◌, inl, inr}, lemmas.Option.none-some}, specs.Prelude.{Bool, true, false, Option, Some, None, is_some, if◌then◌else◌}}
use Rattle.hall_types.specs.declared.change.RowWrite.TheVariants as write
use Rattle.hall_types.specs.declared.act.Act.TheVariants as does
use Rattle.hall_events.specs.declared.command.MachineCommand.TheVariants as on
use Rattle.hall_events.specs.declared.event.Event.TheVariants as event
use Rattle.life_cycle.specs.Entering.{keeps_erase}
use Rattle.hall_laws.{specs.{Prelude.{Hall, Schema, second, RowWrite, Erase, Full, Quick, Machine, Numbers, Operator, Order, Content, OnMachine, MachineCommand, Event, kept, entered-erase, entry_rows, queued_rows, withdrawn_row, IsSound, KeepsErase, receipt_of, prepared}, Decision.{Decided, decision_of}, Step.{IsStep, Step}, Writes.{CauseOf, EditsInterfaces, First, IsEntering, IsOfNoMachine, Writes, WritesAll, boot_first, edits_machine, ends_waiting, enters_status, first_rows, issues_boot, machine_goes, makes_machine, notes_report, nothing_first, order_first, with_receipt, withdrawn_at, without_receipt, writes_aside, writes_nothing}, WritesLaws.decision_writes, FirstSchema.{AllKeepFull, AsksQuick, NeverAsksQuick}}, proofs.MachineWrites.{EachIs, RowIs, RowsAre, applied_are, rows_append}}

-- the kind isn't `quick`
abbrev Spares : Option Erase → Type 0
Spares kind = kind ≢ Some Quick

-- no machine keeps the kind `quick`
abbrev pub AllSpare : Hall → Type 0
AllSpare h = EachIs (λ m. Spares m.erase) h

-- no row of a machine with the kind `quick` is written
abbrev RowsSpare : List RowWrite → Type 0
RowsSpare rows = RowsAre (λ m. Spares m.erase) rows

abbrev RowSpares : RowWrite → Type 0
RowSpares row = RowIs (λ m. Spares m.erase) row

spare_append : (rows more : List RowWrite) → RowsSpare rows → RowsSpare more → RowsSpare (rows ++ more)
spare_append rows more spare also = rows_append (λ m. Spares m.erase) rows more spare also

none_spares : Spares None
none_spares is = none-some Quick is

spares_as : (one other : Option Erase) → one ≡ other → Spares other → Spares one
spares_as one other is spares quick = spares (sym is ∙ quick)

-- ---- what decisions write

kept_spares : (keeps : Bool) (kind : Option Erase) → Spares kind → Spares (kept keeps kind)
kept_spares true kind spares = spares
kept_spares false kind spares = none_spares

-- a command that isn't a release for quick erasing sets no such kind
prepared_spares : (command : MachineCommand) (o : Operator) (m : Machine) → command ≢ on.Release (Some Quick) → Spares m.erase → Spares (prepared command o m).erase
prepared_spares (on.Release kind) o m other spares = λ quick. other (ap (λ (x : Option Erase). on.Release x) quick)
prepared_spares (on.Act does.Allocate) o m other spares = spares
prepared_spares command o m other spares = spares

withdrawn_spares : (waiting : Option Order) → RowsSpare (withdrawn_row waiting)
withdrawn_spares None = tt
withdrawn_spares (Some o) = (tt, tt)

queued_spares : (order : Option Order) (numbers : Numbers) → RowsSpare (queued_rows order numbers)
queued_spares None numbers = tt
queued_spares (Some o) numbers = (tt, (tt, tt))

first_spares : (first : First) → RowsSpare (first_rows first)
first_spares nothing_first = tt
first_spares (boot_first b progress) = (tt, tt)
first_spares (order_first o outcome) = (tt, tt)

interfaces_spare : (h : Hall) (m : Machine) (rows : List RowWrite) → EditsInterfaces h m rows → RowsSpare rows
interfaces_spare h m [] edits = tt
interfaces_spare h m (write.PutInterface i ∷ []) edits = (tt, tt)
interfaces_spare h m (write.InterfaceGone mac ∷ []) edits = (tt, tt)
interfaces_spare h m other edits = absurd edits

aside_spares : (row : RowWrite) (h : Hall) (e : Event) → IsOfNoMachine row h e → RowSpares row
aside_spares (write.PutMachine m was) h e aside = absurd aside
aside_spares other h e aside = tt

module _ (h : Hall) (e : Event) (moment : ℕ) (asks : AsksQuick e → ⊥) (all : AllSpare h) where
  entering_spares : (rows : List RowWrite) (content : Content) (x : IsEntering h e moment rows content) → Spares x.entering.erase
  entering_spares rows content x = by x.first x.cause
    where
      own : Spares x.machine.erase
      own = all x.machine.id x.machine x.found

      as_it_is : x.entering ≡ x.machine → Spares x.entering.erase
      as_it_is is = spares_as x.entering.erase x.machine.erase (ap (λ (m : Machine). m.erase) is) own

      by : (first : First) → CauseOf h e moment content x.machine x.entering x.signal first → Spares x.entering.erase
      by nothing_first (inl c) =
          spares_as x.entering.erase (prepared c.command c.operator x.machine).erase (ap (λ (m : Machine). m.erase) c.sets)
          (prepared_spares c.command c.operator x.machine
          (λ quick. asks (c.bearer, c.key, x.machine.id, c.version, c.event_is ∙ ap (λ (command : MachineCommand). event.Command c.bearer c.key (OnMachine x.machine.id c.version command)) quick)) own)
      by nothing_first (inr c) = as_it_is c.0
      by (boot_first b progress) c = as_it_is c.0
      by (order_first o outcome) c = as_it_is c.0

  entry_spares : (rows : List RowWrite) (content : Content) (x : IsEntering h e moment rows content) → RowsSpare (entry_rows x.machine (withdrawn_at h x.machine x.first) x.new)
  entry_spares rows content x = (
    spares_as x.new.machine.erase (kept (keeps_erase x.step.status) x.entering.erase) (entered-erase x.entering x.step moment h.last x.new x.enters)
        (kept_spares (keeps_erase x.step.status) x.entering.erase (entering_spares rows content x)),
    spare_append (withdrawn_row (withdrawn_at h x.machine x.first)) (queued_rows x.new.order x.new.numbers)
        (withdrawn_spares (withdrawn_at h x.machine x.first)) (queued_spares x.new.order x.new.numbers),
  )

  writes_spare : (fresh : List ℕ) (rows : List RowWrite) (content : Content) → Writes h e moment fresh rows content → RowsSpare rows
  writes_spare fresh rows content (writes_nothing quiet is) = subst RowsSpare (sym is) tt
  writes_spare fresh rows content (makes_machine by x) =
      subst RowsSpare (sym x.rows_are) (spares_as x.machine.erase None (ap (λ (m : Machine). m.erase) x.new) none_spares, (tt, (tt, tt)))
  writes_spare fresh rows content (issues_boot x) = subst RowsSpare (sym x.rows_are) (all x.machine.id x.machine x.found, (tt, (tt, tt)))
  writes_spare fresh rows content (enters_status x) =
      subst RowsSpare (sym x.rows_are)
      (spare_append (first_rows x.first) (entry_rows x.machine (withdrawn_at h x.machine x.first) x.new) (first_spares x.first) (entry_spares rows content x))
  writes_spare fresh rows content (notes_report x) = subst RowsSpare (sym x.rows_are) (tt, tt)
  writes_spare fresh rows content (ends_waiting x) = subst RowsSpare (sym x.rows_are) (tt, (all x.machine.id x.machine x.found, tt))
  writes_spare fresh rows content (edits_machine by x) =
      subst RowsSpare (sym x.rows_are)
      (spares_as x.after.erase x.machine.erase (ap (λ (m : Machine). m.erase) x.same) (all x.machine.id x.machine x.found), interfaces_spare h x.machine x.interfaces x.edits)
  writes_spare fresh rows content (machine_goes id by is) = subst RowsSpare (sym is) (tt, tt)
  writes_spare fresh rows content (writes_aside by x) = subst RowsSpare (sym x.rows_are) (aside_spares x.row h e x.aside, tt)

  decision_spares : (fresh : List ℕ) (d : Decided) → WritesAll h e moment fresh d → RowsSpare d.rows
  decision_spares fresh d (without_receipt none writes) = writes_spare fresh d.rows d.content writes
  decision_spares fresh d (with_receipt own writes x) =
      subst RowsSpare (sym x.rows_are)
      (spare_append own (write.PutReceipt (receipt_of x.operator x.key x.command d.content) ∷ []) (writes_spare fresh own d.content writes) (tt, tt))

-- a step that doesn't ask for quick erasing leaves no machine with that kind
pub step_spares : (s : Step) → IsStep s → NeverAsksQuick s → IsSound s.before → AllSpare s.before → AllSpare s.after
step_spares s (inl came) asks sound all =
    let d = decision_of s.arrival.site s.before s.arrival.event s.arrival.moment s.arrival.fresh in
    let writes = decision_writes s.arrival.site s.before sound s.arrival.event s.arrival.moment s.arrival.fresh in
    subst AllSpare (sym came.after) (applied_are (λ m. Spares m.erase) d.rows s.before (decision_spares s.before s.arrival.event s.arrival.moment asks all s.arrival.fresh d writes) all)
step_spares s (inr missed) asks sound all = subst AllSpare (sym missed.after) all

-- ---- so each machine keeps `full`, where it keeps a kind

full_or_none : (kind : Option Erase) (keeps : Bool) → is_some kind ≡ keeps → Spares kind → kind ≡ (if keeps then Some Full else None)
full_or_none None true is spares = cc
full_or_none None false is spares = refl
full_or_none (Some Full) true is spares = refl
full_or_none (Some Full) false is spares = cc
full_or_none (Some Quick) keeps is spares = absurd (spares refl)

pub all_keep_full : (h : Hall) → IsSound h → h.schema ≡ second → AllSpare h → AllKeepFull h
all_keep_full h sound in_second all id m is =
    full_or_none m.erase (keeps_erase m.status) (subst (λ (schema : Schema). KeepsErase schema m) in_second (sound.erasing id m is)) (all id m is)
