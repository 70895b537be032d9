-- The day in the first schema, by computation, until the machine is given a script that erases; then the hall is carried over.
use Rattle.std.{proofs.{Common.{◌≡◌, List, [], ◌∷◌, ◌++◌, Some, map, refl, sym, inl, ◌∙◌}, lemmas.Option.none-some}, specs.{Prelude.codes, Fmt.digits}}
use Rattle.hex.proofs.OnLiterals.{hex_on_literals}
use Rattle.hall_types.specs.{Kinds.{arch_number, erase_text, purpose_text}, Rows.{at, numbers, texts}}
use Rattle.life_cycle.specs.Entering.{keeps_erase}
use Rattle.boot_desk.specs.{Class.class_in, Fetch.fetched, Following.followed, Texts.work_script}
use Rattle.hall_laws.{specs.{Prelude.{spelling, Hall, first, new_hall, second, Full, DiskErasing, script, Script}, Decision.{Decided, decision_of}, Migration.IsMigrated, Step.{Arrival, IsRun, IsStep, Step}, FirstSchema.{IsFirstRun, plain, without_kind}, Worked.{ada, came, mac, start}}, proofs.{Computing.computed, Day.{Deed, boot_started, boot_started-is, booted_locally, booted_locally-is, commission_booted, commission_booted-is, commission_done, commission_done-is, commissioned, commissioned-is, deploy_begun, deploy_begun-is, deploy_booted, deploy_booted-is, deploy_done, deploy_done-is, erase_booted, erase_booted-is, erase_script, erasing_begun, erasing_begun-is, erasing_booted, image_added, image_added-is, image_live, image_live-is, machine_added, machine_added-is, machine_allocated, machine_allocated-is, made, decides_so, order_done, order_done-is, power_added, power_added-is}, FirstSteps.{AreDecided, IsPair, decided_all, decides, first_end, first_runs, first_step, first_steps, whole_step}, Forgetting.{carried_again, new_forgotten, no_machines}}}

-- ---- the day

abbrev pub first_start : Hall
first_start = new_hall first ada.name ada.digest

start-pair : IsPair start first_start
start-pair = record {
  full = λ id m is. absurd (none-some m (sym (no_machines second ada.name ada.digest id) ∙ is));
  forgotten = new_forgotten ada.name ada.digest;
}

abbrev came_so : Deed → Arrival × Decided
came_so d = (d.step.arrival, d.decided)

-- what came until the owner deployed the machine, and what was decided of it
abbrev until_deploying : List (Arrival × Decided)
until_deploying = map came_so (
    image_added ∷ image_live ∷ power_added ∷ machine_added ∷ commissioned ∷ order_done ∷ commission_booted ∷ boot_started
    ∷ commission_done ∷ machine_allocated ∷ deploy_begun ∷ [])

-- until the machine was released for erasing its disks
abbrev until_released : List (Arrival × Decided)
until_released = until_deploying ++ map came_so (deploy_booted ∷ deploy_done ∷ booted_locally ∷ erasing_begun ∷ [])

abbrev until_erased : List (Arrival × Decided)
until_erased = until_released ++ came_so erase_booted ∷ []

are_decided : AreDecided start until_erased
unfolding keeps_erase
are_decided =
    decides image_added-is refl (tt, (tt, tt)) (decides image_live-is refl (tt, (tt, tt))
    (decides power_added-is refl (tt, (tt, tt)) (decides machine_added-is refl (refl, (tt, (tt, (tt, tt))))
    (decides commissioned-is refl (refl, (tt, (tt, (tt, tt)))) (decides order_done-is refl (tt, (refl, tt))
    (decides commission_booted-is refl (refl, (tt, (tt, tt))) (decides boot_started-is refl (tt, tt)
    (decides commission_done-is refl (tt, (refl, tt)) (decides machine_allocated-is refl (refl, (tt, tt))
    (decides deploy_begun-is refl (refl, (tt, (tt, (tt, tt)))) (decides deploy_booted-is refl (refl, (tt, (tt, tt)))
    (decides deploy_done-is refl (tt, (refl, (tt, tt))) (decides booted_locally-is refl tt
    (decides erasing_begun-is refl (refl, (tt, (tt, (tt, tt)))) (decides erase_booted-is refl (refl, (tt, (tt, tt)))
    decided_all)))))))))))))))

abbrev pub first_day : List Step
first_day = first_steps first_start until_erased

abbrev pub first_deploy_booted : Step
first_deploy_booted = first_step (first_end first_start until_deploying) deploy_booted.step.arrival deploy_booted.decided

abbrev pub first_erase_booted : Step
first_erase_booted = first_step (first_end first_start until_released) erase_booted.step.arrival erase_booted.decided

runs : IsFirstRun first_start first_day first_erase_booted.after × IsPair erase_booted.step.after first_erase_booted.after
runs = first_runs until_erased start first_start start-pair are_decided

pub first_day_runs : IsFirstRun first_start first_day first_erase_booted.after
first_day_runs = runs.0

-- the machine is in Disk erasing, without a kind
machine_in_first : at first_erase_booted.after.machines 1 ≡ Some (without_kind erasing_booted)
unfolding numbers
machine_in_first = simp (computed)

-- it was given a script that erases, whose text names no kind
script_in_first : first_erase_booted.answer ≡ Some (script (plain erase_script))
script_in_first = refl

text_in_first : spelling (plain erase_script)
    ≡ codes "#!ipxe\nkernel http://files.example/k hall.purpose=erase hall.boot=3 hall.token=09090909090909090909090909090909 hall.desk=http://hall.example\ninitrd http://files.example/i\nboot\n"
unfolding work_script purpose_text digits hex_on_literals
text_in_first = refl

-- ---- the hall is carried over

pub hall_is_carried : IsMigrated first_erase_booted.after erase_booted.step.after
hall_is_carried = carried_again erase_booted.step.after first_erase_booted.after runs.1.full runs.1.forgotten

-- the machine keeps the kind `full`
machine_in_second : at erase_booted.step.after.machines 1 ≡ Some erasing_booted
unfolding numbers
machine_in_second = simp (computed)

status_in_second : erasing_booted.status ≡ DiskErasing
status_in_second = refl

kind_in_second : erasing_booted.erase ≡ Some Full
kind_in_second = refl

-- it asks again, and is given the script of its boot, whose text names the kind
abbrev pub erase_given : Step
erase_given = whole_step erase_booted.step.after (came (Script mac)) (made (script erase_script) [])

erase_given-is : IsStep erase_given
unfolding texts numbers arch_number class_in followed fetched decision_of
erase_given-is = decides_so erase_booted.step.after (came (Script mac)) (made (script erase_script) []) (simp (computed))

pub goes_on : IsRun erase_booted.step.after (erase_given ∷ []) erase_given.after
goes_on = (inl refl, erase_given-is, inl refl)

script_in_second : erase_given.answer ≡ Some (script erase_script)
script_in_second = refl

text_in_second : spelling erase_script
    ≡ codes "#!ipxe\nkernel http://files.example/k hall.purpose=erase hall.erase=full hall.boot=3 hall.token=09090909090909090909090909090909 hall.desk=http://hall.example\ninitrd http://files.example/i\nboot\n"
unfolding work_script purpose_text erase_text digits hex_on_literals
text_in_second = refl
