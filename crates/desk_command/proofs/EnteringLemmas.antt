-- A hall stays sound with each command by which a machine enters a status.
use Rattle.std.{specs.Prelude.{◌≡◌, ◌&&◌, ◌||◌, not, ℕ, Bool, true, false, List, [], ◌∷◌, Option, Some, None, is_some, IsSome, option_map}, proofs.{Common.{refl, sym, ap, subst, ◌∙◌}, lemmas.Bool.both_ways}}
use Rattle.hall_types.specs.Kinds.{arch_number}
use Rattle.hall_types.specs.declared.kinds.Purpose.TheVariants as purpose
use Rattle.hall_types.specs.declared.refusal.Refusal.TheVariants as cause
use Rattle.hall_types.specs.declared.act.Act.TheVariants as does
use Rattle.hall_events.specs.declared.command.MachineCommand.TheVariants as on
use Rattle.life_cycle.specs.{Entering.{back_after, keeps_erase, keeps_owner}, Table.step_of}
use Rattle.life_cycle.specs.declared.action.Action.TheVariants as act
use Rattle.boot_desk.specs.Class.{class_in}
use Rattle.desk_command.{specs.{Prelude.{Arch, second, Hall, applied, BootImage, at, Erase, Purpose, Machine, Operator, Status, Deploying, HasRow, HasRowIf, MachineCommand, entered, kept, machine_in, is_signal, same_status, Action, By, Step, step_cases, image_for, IsSound, entry_rows, row_at, view_of, Work, BootView, same_purpose}, Causes.{first_of, image_arch, is_arch, machine_view, no_live, no_step, of_machine, when, with_live}, Effect.{acted, entry_effect, prepared, step_effect}, declared.view.CommandView.CommandView, AllowedLaws.{IsAllowed, first_none, unless_none}}, proofs.ActionLemmas.{Keeps, WorksIn, act_sound, begins, entering, erasing_by, has_erase, is_this, live_found, work_of}}

-- ---- what a machine works with in its new status

module _ (h : Hall) (m : Machine) (step : Step) (moment : ℕ) where
  -- the work of one status: what is found for it is found for what the machine works for there
  works_at_status : (status : Status) (p : Purpose) → ((back : Option Status) → class_in status back ≡ Work p) → step.status ≡ status → IsSome (image_for p (view_of h (machine_in m step.status moment None))) → WorksIn h m step moment
  works_at_status status p class is found q works =
      let same : p ≡ q = same_purpose p q (sym (class (back_after m.status step.status m.back)) ∙ (ap (λ x. class_in x (back_after m.status step.status m.back)) (sym is) ∙ works)) in
      subst (λ x. IsSome (image_for x (view_of h (machine_in m step.status moment None)))) same found

-- a machine that is deployed keeps its image
deploying_image : (h : Hall) (status : Status) (image : List ℕ) → status ≡ Deploying → HasRow h.images image → IsSome (row_at h.images (kept (keeps_owner status) (Some image)))
unfolding keeps_owner
deploying_image h status image is has = ap (λ x. is_some (row_at h.images (kept (keeps_owner x) (Some image)))) is ∙ has

-- an image whose architecture is known is recorded
image_found : (h : Hall) (image : List ℕ) (arch : Arch) → is_arch (image_arch h image) arch ≡ true → HasRow h.images image
image_found h image arch is = by (at h.images image) refl is
  where
    by : (o : Option BootImage) → at h.images image ≡ o → is_arch (option_map (λ (i : BootImage). i.arch) o) arch ≡ true → HasRow h.images image
    by None there is = cc
    by (Some i) there is = ap (λ x. is_some x) there

-- what holds of a value holds of the value that an option has, if that is the same
pub given : {X : Type 0} (P : X → Type 0) (x y : X) → P x → Some x ≡ Some y → P y
given P x y has is = let same : x ≡ y = cc in subst P same has

-- ---- each command

module _ (h : Hall) (s : IsSound h) (in_second : h.schema ≡ second) (m : Machine) (was : at h.machines m.id ≡ Some m) (o : Operator) (moment : ℕ) where
  -- a command by which the machine enters a status with these tests, this owner, this image and this kind of erasing
  entering_sound : (v : CommandView) (command : MachineCommand) (action : Action) (tests : Bool) (owner image : Option (List ℕ)) (erase : Option Erase)
      → v.order ≡ row_at h.orders m.waiting → v.numbers ≡ h.last → prepared command o m ≡ entering m tests owner image erase
      → m.locked ≡ false → HasRowIf h.operators owner → HasRowIf h.images image
      → ((step : Step) → step_of m (By action) ≡ Some step → keeps_erase step.status ≡ true → is_some erase ≡ true)
      → ((step : Step) → step_of m (By action) ≡ Some step → WorksIn h (entering m tests owner image erase) step moment)
      → Keeps h (acted v o m command moment action)
  entering_sound v command action tests owner image erase order numbers sets unlocked has_owner has_image erases works =
      step_cases (Keeps h) m (prepared command o m) (By action) moment v.numbers (step_effect v o m command moment) (entry_effect v m) (λ step. refl) (λ stays. tt) tt
      (λ step e leads enters.
      subst (λ w. IsSound (applied (entry_rows m w e) h)) (sym order)
      (act_sound h s in_second m was action step leads tests owner image erase moment e unlocked has_owner has_image (erases step leads) (works step leads)
      (ap (λ x. entered x step moment h.last) (sym sets) ∙ (ap (λ n. entered (prepared command o m) step moment n) (sym numbers) ∙ enters))))

  owner_has : HasRowIf h.operators m.owner
  owner_has = s.machine_owners m.id m was

  image_has : HasRowIf h.images m.image
  image_has = s.machine_images m.id m was

  -- an action that leads to no status which keeps how the disks are erased
  pub no_erasing : (action : Action) (erase : Option Erase) → (is_signal (By action) (By act.ReleaseErasing) || (is_signal (By action) (By (act.Act does.Abort)) && keeps_erase m.status)) ≡ false
      → (step : Step) → step_of m (By action) ≡ Some step → keeps_erase step.status ≡ true → is_some erase ≡ true
  no_erasing action erase never step leads keeps =
      absurd (both_ways (is_signal (By action) (By act.ReleaseErasing) || (is_signal (By action) (By (act.Act does.Abort)) && keeps_erase m.status)) never
      (erasing_by h s in_second m was action step leads keeps))

  -- an action that begins no work
  pub plain_sound : (v : CommandView) (command : MachineCommand) (action : Action) (owner : Option (List ℕ)) (erase : Option Erase)
      → v.order ≡ row_at h.orders m.waiting → v.numbers ≡ h.last → prepared command o m ≡ entering m m.tests owner m.image erase → work_of (By action) ≡ None
      → m.locked ≡ false → HasRowIf h.operators owner → ((step : Step) → step_of m (By action) ≡ Some step → keeps_erase step.status ≡ true → is_some erase ≡ true)
      → Keeps h (acted v o m command moment action)
  plain_sound v command action owner erase order numbers sets none unlocked has_owner erases =
      entering_sound v command action m.tests owner m.image erase order numbers sets unlocked has_owner image_has erases
      (λ step leads p works. absurd (both_ways (is_this (work_of (By action)) step.status) (ap (λ w. is_this w step.status) none)
      (begins h s in_second m was action step leads (back_after m.status step.status m.back) p works)))

  -- an action whose work needs the live image
  pub live_sound : (command : MachineCommand) (action : Action) (status : Status) (p : Purpose) (tests : Bool) (erase : Option Erase)
      → prepared command o m ≡ entering m tests m.owner m.image erase → work_of (By action) ≡ Some status → ((back : Option Status) → class_in status back ≡ Work p) → ((v : BootView) → image_for p v ≡ v.live)
      → m.locked ≡ false → first_of (no_step m action ∷ no_live (with_live h m) ∷ []) ≡ None
      → ((step : Step) → step_of m (By action) ≡ Some step → keeps_erase step.status ≡ true → is_some erase ≡ true)
      → Keeps h (acted (with_live h m) o m command moment action)
  live_sound command action status p tests erase sets work class uses unlocked own erases =
      let after_step = first_none (no_step m action) _ own in
      let live = unless_none (with_live h m).has_live cause.NoLiveImage (first_none (no_live (with_live h m)) _ after_step.1).0 in
      entering_sound (with_live h m) command action tests m.owner m.image erase refl refl sets unlocked owner_has image_has erases
      (λ step leads q works.
      let its : step.status ≡ status = same_status step.status status
      (sym (ap (λ w. is_this w step.status) work) ∙ begins h s in_second m was action step leads (back_after m.status step.status m.back) q works) in
      works_at_status h (entering m tests m.owner m.image erase) step moment status p class its
      (ap (λ x. is_some x) (uses (view_of h (machine_in (entering m tests m.owner m.image erase) step.status moment None))) ∙ live_found h s (arch_number m.arch) live)
      q works)

  pub abort_sound : m.locked ≡ false → Keeps h (acted (of_machine h m) o m (on.Act does.Abort) moment (act.Act does.Abort))
  abort_sound unlocked =
      plain_sound (of_machine h m) (on.Act does.Abort) (act.Act does.Abort) m.owner m.erase refl refl refl refl unlocked owner_has
      (λ step leads keeps. has_erase h s in_second m was (erasing_by h s in_second m was (act.Act does.Abort) step leads keeps))

  pub deploy_sound : (image : List ℕ) → IsAllowed (machine_view h o m (on.Deploy image)) m (on.Deploy image) → Keeps h (acted (machine_view h o m (on.Deploy image)) o m (on.Deploy image) moment act.Deploy)
  unfolding class_in
  deploy_sound image a =
      let after_step = first_none (no_step m act.Deploy) _ a.own in
      let same_arch = unless_none (is_arch (image_arch h image) m.arch) cause.WrongArch (first_none (when (not (is_arch (image_arch h image) m.arch)) cause.WrongArch) _ after_step.1).0 in
      let has = image_found h image m.arch same_arch in
      entering_sound (machine_view h o m (on.Deploy image)) (on.Deploy image) act.Deploy m.tests m.owner (Some image) m.erase refl refl refl a.unlocked
      owner_has (λ key its. given (HasRow h.images) image key has its) (no_erasing act.Deploy m.erase refl) (deploys has)
    where
      deploys : HasRow h.images image → (step : Step) → step_of m (By act.Deploy) ≡ Some step → WorksIn h (entering m m.tests m.owner (Some image) m.erase) step moment
      deploys has step leads q works =
          let its : step.status ≡ Deploying = same_status step.status Deploying (begins h s in_second m was act.Deploy step leads (back_after m.status step.status m.back) q works) in
          works_at_status h (entering m m.tests m.owner (Some image) m.erase) step moment Deploying purpose.Deploy (λ back. refl) its
          (deploying_image h step.status image its has) q works
