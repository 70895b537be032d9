-- A hall stays sound if a machine enters the status that an operator's action leads to.
use Rattle.std.{specs.{Prelude.{◌≡◌, ◌&&◌, ◌||◌, ℕ, Bool, true, false, List, Option, Some, None, is_some, IsSome, option_map}, List.list_all}, proofs.{Common.{refl, sym, ap, subst, ◌∙◌}, lemmas.{Bool.and_parts, Option.none-some}}}
use Rattle.hall_types.specs.Status.{status_number}
use Rattle.life_cycle.specs.{Entering.{back_after, keeps_erase}, Table.step_of, TableLaws.passes}
use Rattle.hall_types.specs.declared.act.Act.TheVariants as does
use Rattle.life_cycle.specs.declared.action.Action.TheVariants as act
use Rattle.boot_desk.specs.{Class.class_in, DecisionLaws.IfOk, Views.live_image}
use Rattle.desk_command.specs.{Prelude.{Schema, second, Hall, applied, next_number, at, RowWrite, Erase, OrderKind, Purpose, Machine, Numbers, Status, Commissioning, Testing, Deploying, DiskErasing, EnteringRescue, HasRowIf, Content, entered, entered_by, entered_plain, entered_queued, kept, machine_in, transitions, StepTest, each_step, is_signal, is_status, only_if, only_if_true, Action, Entered, Signal, By, Step, back-remembered, command-boot, deployed-order, entry_from_sound, is_by, is_some-back, image_for, entry_rows, IsSound, IsSoundMachine, KeepsErase, some_of, image_named, row_at, view_of, Work, works-status, works_at}, Effect.Effect}

-- ---- what the table says of the actions

-- the status in which an action's work begins
abbrev pub work_of : Signal → Option Status
work_of (By act.Commission) = Some Commissioning
work_of (By (act.Act does.Test)) = Some Testing
work_of (By act.Deploy) = Some Deploying
work_of (By act.ReleaseErasing) = Some DiskErasing
work_of (By (act.Act does.Rescue)) = Some EnteringRescue
work_of other = None

abbrev pub is_this : Option Status → Status → Bool
is_this None status = false
is_this (Some its) status = is_status status its

-- an action begins its own work alone, and how the disks are erased is kept only by a release that erases, or an abort
abbrev pub action_step : StepTest
action_step signal from at order =
    only_if (is_by signal)
    (only_if (works_at at) (is_this (work_of signal) at)
    && only_if (keeps_erase at) (is_signal signal (By act.ReleaseErasing) || (is_signal signal (By (act.Act does.Abort)) && keeps_erase from)))

all_action_steps : list_all (passes action_step) transitions ≡ true
unfolding status_number keeps_erase
all_action_steps = refl

-- ---- a machine that an action leads to another status

abbrev pub entering : Machine → Bool → Option (List ℕ) → Option (List ℕ) → Option Erase → Machine
entering m tests owner image erase = record m { tests = tests; owner = owner; image = image; erase = erase }

-- a machine enters a status whatever its tests, owner, image and kind of erasing are
entered_too : (m n : Machine) (step : Step) (moment : ℕ) (last : Numbers) (e : Entered) → entered m step moment last ≡ Some e → (x : Entered) × (entered n step moment last ≡ Some x)
entered_too m n step moment last e is = by step.order is
  where
    by_number : (kind : OrderKind) (number : Option ℕ) → option_map (entered_queued m step.status moment last kind) number ≡ Some e → (x : Entered) × (option_map (entered_queued n step.status moment last kind) number ≡ Some x)
    by_number kind None is = absurd (none-some e is)
    by_number kind (Some k) is = (entered_queued n step.status moment last kind k, refl)

    by : (order : Option OrderKind) → entered_by m step.status moment last order ≡ Some e → (x : Entered) × (entered_by n step.status moment last order ≡ Some x)
    by None is = (entered_plain n step.status moment last, refl)
    by (Some kind) is = by_number kind (next_number last.order) is

erase_kept : (schema : Schema) → schema ≡ second → (m : Machine) (step : Step) (moment : ℕ) → (keeps_erase step.status ≡ true → is_some m.erase ≡ true) → KeepsErase schema (machine_in m step.status moment None)
erase_kept schema is m step moment erases = subst (λ x. KeepsErase x (machine_in m step.status moment None)) (sym is) (by (keeps_erase step.status) refl)
  where
    by : (b : Bool) → keeps_erase step.status ≡ b → is_some (kept b m.erase) ≡ b
    by true t = erases t
    by false t = refl

-- a live image that is recorded for an architecture is recorded as an image
pub live_found : (h : Hall) → IsSound h → (arch : ℕ) → is_some (at h.lives arch) ≡ true → IsSome (live_image h arch)
live_found h s arch is =
    let l = some_of (at h.lives arch) is in ap (λ o. is_some (image_named h o)) l.1 ∙ s.live_images arch l.0 l.1

-- the rows of an effect leave the hall sound
abbrev pub Keeps : Hall → Effect → Type 0
Keeps h = IfOk (λ (d : List RowWrite × Content). IsSound (applied d.0 h))

-- the image that a machine works with in the status that it enters is recorded
abbrev pub WorksIn : Hall → Machine → Step → ℕ → Type 0
WorksIn h m step moment =
    (p : Purpose) → class_in step.status (back_after m.status step.status m.back) ≡ Work p → IsSome (image_for p (view_of h (machine_in m step.status moment None)))

module _ (h : Hall) (s : IsSound h) (in_second : h.schema ≡ second) (m : Machine) (was : at h.machines m.id ≡ Some m) where
  v : IsSoundMachine (view_of h m)
  v = s.machines m.id m was

  -- the kind of erasing of a machine whose status keeps it
  pub has_erase : keeps_erase m.status ≡ true → is_some m.erase ≡ true
  has_erase keeps = subst (λ x. KeepsErase x m) in_second (s.erasing m.id m was) ∙ keeps

  module _ (action : Action) (step : Step) (leads : step_of m (By action) ≡ Some step) where
    facts : (only_if (works_at step.status) (is_this (work_of (By action)) step.status)
        && only_if (keeps_erase step.status) (is_signal (By action) (By act.ReleaseErasing) || (is_signal (By action) (By (act.Act does.Abort)) && keeps_erase m.status))) ≡ true
    facts = each_step action_step m (By action) step all_action_steps v.remembered leads

    -- the work that begins is the action's
    pub begins : (back : Option Status) (p : Purpose) → class_in step.status back ≡ Work p → is_this (work_of (By action)) step.status ≡ true
    begins back p is =
        only_if_true (works_at step.status) (is_this (work_of (By action)) step.status) (and_parts (only_if (works_at step.status) (is_this (work_of (By action)) step.status)) _ facts).0
        (works-status step.status back p is)

    pub erasing_by : keeps_erase step.status ≡ true → (is_signal (By action) (By act.ReleaseErasing) || (is_signal (By action) (By (act.Act does.Abort)) && keeps_erase m.status)) ≡ true
    erasing_by keeps =
        only_if_true (keeps_erase step.status) _ (and_parts (only_if (works_at step.status) (is_this (work_of (By action)) step.status)) _ facts).1 keeps

    -- the machine enters the status that the action leads to
    pub act_sound : (tests : Bool) (owner image : Option (List ℕ)) (erase : Option Erase) (moment : ℕ) (e : Entered)
        → m.locked ≡ false → HasRowIf h.operators owner → HasRowIf h.images image → (keeps_erase step.status ≡ true → is_some erase ≡ true) → WorksIn h (entering m tests owner image erase) step moment
        → entered (entering m tests owner image erase) step moment h.last ≡ Some e → IsSound (applied (entry_rows m (row_at h.orders m.waiting) e) h)
    act_sound tests owner image erase moment e unlocked has_owner has_image erases works is =
        let own = entered_too (entering m tests owner image erase) m step moment h.last e is in
        entry_from_sound h m (entering m tests owner image erase) step moment s was
        (record {
          id = refl;
          uuid = refl;
          pool = s.machine_pools m.id m was;
          owner = has_owner;
          image = has_image;
          unlocked = unlocked;
          back = is_some-back m (By action) step v.remembered leads moment h.last own.0 own.1 v.back;
          remembered = back-remembered m (By action) step v.remembered leads moment h.last own.0 own.1;
          deployed = deployed-order m (By action) step v.remembered leads;
          erase = erase_kept h.schema in_second (entering m tests owner image erase) step moment erases;
          boot = λ number kept. absurd (none-some number (sym (command-boot m (By action) step v.remembered leads refl m.boot) ∙ kept));
          works = works;
        })
        m e is
