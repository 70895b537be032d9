-- A machine may enter the status that a step leads to, if no operator gives the signal.
use Rattle.std.{specs.{Prelude.{◌≡◌, ◌≢◌, ◌⊎◌, ◌&&◌, ◌||◌, not, ℕ, Bool, true, false, Option, Some, None, is_some, IsSome}, List.list_all}, proofs.{Common.{refl, sym, ap, subst, inl, inr, ◌∙◌}, lemmas.{Bool.{and_parts, or_cases, both_ways, not-true}, Option.none-some}}}
use Rattle.hall_types.specs.{Status.{status_number, statuses}, Rows.{numbers, Rows, at}, Hall.{Schema, first, second, Hall}, declared.{boot.Boot.Boot, kinds.{Purpose.Purpose, Stage.TheVariants.{Offered, Started}}, machine.Machine.Machine, status.Status.{Status, TheVariants.{Commissioning, Testing, Deploying, Deployed, DiskErasing, EnteringRescue, Rescue, ExitingRescue}}}}
use Rattle.hall_types.specs.declared.kinds.Progress.TheVariants as progress
use Rattle.hall_types.specs.declared.kinds.Purpose.TheVariants as purpose
use Rattle.life_cycle.specs.{declared.{entering.Entered.Entered, signal.Signal.{Signal, TheVariants.Report}, step.Step.Step}, Entering.{back_after, boot_after, entered, keeps_erase, kept, machine_in}, Table.{transitions, step_of}, TableLaws.{StepTest, passes, only_if, only_if_true, is_status, is_signal, same_status, is_status-same, each_status, each_step}}
use Rattle.boot_desk.specs.{declared.class.ScriptClass.{ScriptClass, TheVariants.Work}, Class.{class_after_rescue, class_in, class_of}, Fetch.image_for, Report.{fails_too_late, is_rescue_boot}, Views.view_of, ClassLaws.{same_purpose, works-status, works_at}, Sound.{KeepsErase, IsSoundMachine, IsSound}, EntryLaws.{MayEnter, back-remembered, boot_goes, boot_stays, deployed-order, is_by, is_some-back}}

-- ---- what the table says of the signals that no operator gives

-- work begins only after Commissioning, or with the report that a rescue's boot has started
abbrev begins_work : StepTest
begins_work signal from at order =
    only_if (works_at at)
    ((is_status at Testing && is_status from Commissioning) || (is_status at Rescue && (is_status from EnteringRescue && is_signal signal (Report progress.Started))))

-- a signal of no operator begins work in two ways only, keeps how the disks are erased, and leaves Deployed machines alone
abbrev desk_step : StepTest
desk_step signal from at order =
    is_by signal || (begins_work signal from at order && (only_if (keeps_erase at) (keeps_erase from) && not (is_status from Deployed)))

all_desk_steps : list_all (passes desk_step) transitions ≡ true
unfolding status_number keeps_erase
all_desk_steps = refl

erase_stays : (schema : Schema) (m : Machine) (step : Step) (moment : ℕ) → KeepsErase schema m → only_if (keeps_erase step.status) (keeps_erase m.status) ≡ true → KeepsErase schema (machine_in m step.status moment None)
erase_stays first m step moment keeps only = by (keeps_erase step.status)
  where
    by : (b : Bool) → kept b m.erase ≡ None
    by true = keeps
    by false = refl
erase_stays second m step moment keeps only = by (keeps_erase step.status) refl
  where
    by : (b : Bool) → keeps_erase step.status ≡ b → is_some (kept b m.erase) ≡ b
    by true t = keeps ∙ only_if_true (keeps_erase step.status) (keeps_erase m.status) only t
    by false t = refl

-- the boot that is kept when the machine comes into Rescue mode
abbrev pub KeptBoot : Signal → Machine → Rows numbers Boot → Type 0
KeptBoot signal m boots =
    is_signal signal (Report progress.Started) ≡ true → m.status ≡ EnteringRescue → (number : ℕ) → m.boot ≡ Some number
    → (b : Boot) × (at boots number ≡ Some b) × (b.machine ≡ m.id) × ((b.stage ≡ Offered) ⊎ (b.stage ≡ Started)) × (b.purpose ≡ purpose.Rescue)

module _ (h : Hall) (m : Machine) (s : IsSound h) (was : at h.machines m.id ≡ Some m) (signal : Signal) (step : Step) (no_command : is_by signal ≡ false) (leads : step_of m signal ≡ Some step) where
  v : IsSoundMachine (view_of h m)
  v = s.machines m.id m was

  facts : (begins_work signal m.status step.status step.order && (only_if (keeps_erase step.status) (keeps_erase m.status) && not (is_status m.status Deployed))) ≡ true
  facts = elim (or_cases (is_by signal) _ (each_step desk_step m signal step all_desk_steps v.remembered leads)) [
    | inl by ↦ absurd (both_ways (is_by signal) no_command by)
    | inr fits ↦ fits
  ]

  begins : begins_work signal m.status step.status step.order ≡ true
  begins = (and_parts (begins_work signal m.status step.status step.order) _ facts).0

  others : (only_if (keeps_erase step.status) (keeps_erase m.status) && not (is_status m.status Deployed)) ≡ true
  others = (and_parts (begins_work signal m.status step.status step.order) _ facts).1

  not_deployed : m.status ≢ Deployed
  not_deployed is =
      both_ways (is_status m.status Deployed) (not-true (is_status m.status Deployed) (and_parts (only_if (keeps_erase step.status) (keeps_erase m.status)) _ others).1) (is_status-same m.status Deployed is)

  unlocked : m.locked ≡ false
  unlocked = by m.locked refl
    where
      by : (b : Bool) → m.locked ≡ b → b ≡ false
      by true t = absurd (not_deployed (v.locked t))
      by false t = refl

  -- the two ways into a status in which a machine works
  ways : works_at step.status ≡ true → ((step.status ≡ Testing) × (m.status ≡ Commissioning)) ⊎ ((step.status ≡ Rescue) × (m.status ≡ EnteringRescue) × (is_signal signal (Report progress.Started) ≡ true))
  ways works = elim (or_cases (is_status step.status Testing && is_status m.status Commissioning) _ (only_if_true (works_at step.status) _ begins works)) [
    | inl t ↦ let parts = and_parts (is_status step.status Testing) (is_status m.status Commissioning) t in
        inl (same_status step.status Testing parts.0, same_status m.status Commissioning parts.1)
    | inr t ↦ let parts = and_parts (is_status step.status Rescue) (is_status m.status EnteringRescue && is_signal signal (Report progress.Started)) t in
        let more = and_parts (is_status m.status EnteringRescue) (is_signal signal (Report progress.Started)) parts.1 in
        inr (same_status step.status Rescue parts.0, same_status m.status EnteringRescue more.0, more.1)
  ]

  works : (moment : ℕ) (p : Purpose) → class_in step.status (back_after m.status step.status m.back) ≡ Work p → IsSome (image_for p (view_of h (machine_in m step.status moment None)))
  unfolding class_in
  works moment p is = by (ways (works-status step.status (back_after m.status step.status m.back) p is))
    where
      by : ((step.status ≡ Testing) × (m.status ≡ Commissioning)) ⊎ ((step.status ≡ Rescue) × (m.status ≡ EnteringRescue) × (is_signal signal (Report progress.Started) ≡ true)) → IsSome (image_for p (view_of h (machine_in m step.status moment None)))
      by (inl w) =
          let test : purpose.Test ≡ p = same_purpose purpose.Test p (sym (ap (λ x. class_in x (back_after m.status step.status m.back)) w.0) ∙ is) in
          subst (λ q. IsSome (image_for q (view_of h (machine_in m step.status moment None)))) test (v.image purpose.Commission (ap (λ x. class_in x m.back) w.1))
      by (inr w) =
          let rescue : purpose.Rescue ≡ p = same_purpose purpose.Rescue p (sym (ap (λ x. class_in x (back_after m.status step.status m.back)) w.0) ∙ is) in
          subst (λ q. IsSome (image_for q (view_of h (machine_in m step.status moment None)))) rescue (v.image purpose.Rescue (ap (λ x. class_in x m.back) w.1))

  own_boot : (boots : Rows numbers Boot) → KeptBoot signal m boots → (number : ℕ) → boot_after m.status step.status m.boot ≡ Some number
      → (b : Boot) × (at boots number ≡ Some b) × (b.machine ≡ m.id) × ((b.stage ≡ Offered) ⊎ (b.stage ≡ Started)) × (class_in step.status (back_after m.status step.status m.back) ≡ Work b.purpose)
  unfolding class_in
  own_boot boots keeps number is = by (is_status step.status Rescue) refl
    where
      by_way : step.status ≡ Rescue → ((step.status ≡ Testing) × (m.status ≡ Commissioning)) ⊎ ((step.status ≡ Rescue) × (m.status ≡ EnteringRescue) × (is_signal signal (Report progress.Started) ≡ true))
          → (b : Boot) × (at boots number ≡ Some b) × (b.machine ≡ m.id) × ((b.stage ≡ Offered) ⊎ (b.stage ≡ Started)) × (class_in step.status (back_after m.status step.status m.back) ≡ Work b.purpose)
      by_way into (inl w) = cc
      by_way into (inr w) =
          let b = keeps w.2 w.1 number (sym (boot_stays m.status step.status m.boot w.1 w.0) ∙ is) in
          (b.0, b.1, b.2, b.3, ap (λ x. class_in x (back_after m.status step.status m.back)) into ∙ ap (λ q. Work q) (sym b.4))

      by : (rescue : Bool) → is_status step.status Rescue ≡ rescue
          → (b : Boot) × (at boots number ≡ Some b) × (b.machine ≡ m.id) × ((b.stage ≡ Offered) ⊎ (b.stage ≡ Started)) × (class_in step.status (back_after m.status step.status m.back) ≡ Work b.purpose)
      by true t = let into = same_status step.status Rescue t in by_way into (ways (ap works_at into))
      by false t = absurd (none-some number (sym (boot_goes m.status step.status m.boot t) ∙ is))

  -- the machine may enter the status that the step leads to
  pub may_enter : (moment : ℕ) (e : Entered) (boots : Rows numbers Boot) → KeptBoot signal m boots → entered m step moment h.last ≡ Some e → MayEnter h m m step moment boots
  may_enter moment e boots keeps is = record {
    id = refl;
    uuid = refl;
    pool = s.machine_pools m.id m was;
    owner = s.machine_owners m.id m was;
    image = s.machine_images m.id m was;
    unlocked = unlocked;
    back = is_some-back m signal step v.remembered leads moment h.last e is v.back;
    remembered = back-remembered m signal step v.remembered leads moment h.last e is;
    deployed = deployed-order m signal step v.remembered leads;
    erase = erase_stays h.schema m step moment (s.erasing m.id m was) (and_parts (only_if (keeps_erase step.status) (keeps_erase m.status)) _ others).0;
    boot = own_boot boots keeps;
    works = works moment;
  }

-- ---- reports that lead to another status

-- work that ends with the report that it is done
abbrev ends_at : Status → Bool
ends_at Commissioning = true
ends_at Testing = true
ends_at Deploying = true
ends_at DiskErasing = true
ends_at other = false

abbrev ends : ScriptClass → Bool
ends (Work p) = not (is_rescue_boot p)
ends other = false

ends_after_rescue : (back : Option Status) → ends (class_after_rescue back) ≡ false
ends_after_rescue (Some Deployed) = refl
ends_after_rescue other = refl

ends_in : (status : Status) (back : Option Status) → ends (class_in status back) ≡ ends_at status
unfolding class_in
ends_in ExitingRescue back = ends_after_rescue back
ends_in other back = refl

abbrev done_leads : Machine → Bool → Status → Bool
done_leads m tests status =
    only_if (ends_at status) (is_some (step_of (record m { status = status; tests = tests }) (Report progress.Done)))

all_done_lead : (m : Machine) (tests : Bool) → list_all (done_leads m tests) statuses ≡ true
unfolding step_of status_number
all_done_lead m true = refl
all_done_lead m false = refl

-- the report that a boot's work is done leads to another status, except for a rescue
pub done-leads : (m : Machine) (p : Purpose) → class_of m ≡ Work p → is_rescue_boot p ≡ false → is_some (step_of m (Report progress.Done)) ≡ true
done-leads m p is ending =
    only_if_true (ends_at m.status) (is_some (step_of m (Report progress.Done))) (each_status (done_leads m m.tests) (all_done_lead m m.tests) m.status)
    (sym (ends_in m.status m.back) ∙ (ap ends is ∙ ap not ending))

abbrev failed_leads : Machine → Status → Bool
failed_leads m status =
    only_if (works_at status) (only_if (not (fails_too_late status)) (is_some (step_of (record m { status = status }) (Report progress.Failed))))

all_failed_lead : (m : Machine) → list_all (failed_leads m) statuses ≡ true
unfolding step_of status_number
all_failed_lead m = refl

-- the report that a boot's work failed leads to another status, except in Rescue mode
pub failed-leads : (m : Machine) (p : Purpose) → class_of m ≡ Work p → fails_too_late m.status ≡ false → is_some (step_of m (Report progress.Failed)) ≡ true
failed-leads m p is early =
    only_if_true (not (fails_too_late m.status)) (is_some (step_of m (Report progress.Failed)))
    (only_if_true (works_at m.status) _ (each_status (failed_leads m) (all_failed_lead m) m.status) (works-status m.status m.back p is)) (ap not early)
