-- No law is empty: at some step of the day its premise holds.
use Rattle.std.{proofs.Common.{◌≡◌, ◌≢◌, [], ◌∷◌, ◌++◌, Some, None, refl, sym, ap, ◌∙◌, inl, inr, arith}, specs.Prelude.drop}
use Rattle.hall_types.specs.{Kinds.purpose_text, Rows.{at, numbers, texts}, declared.kinds.{OrderStage.TheVariants.Done as Ended, Outcome.TheVariants.Done as Turned}}
use Rattle.hall_types.specs.declared.kinds.Purpose.TheVariants as purpose
use Rattle.hall_types.specs.declared.kinds.Stage.TheVariants as stage
use Rattle.hall_types.specs.declared.port.Port.TheVariants as port
use Rattle.hall_events.specs.Reply.{reply_of}
use Rattle.hall_events.specs.declared.event.Event.TheVariants as event
use Rattle.boot_desk.specs.Texts.{local_script}
use Rattle.hall_laws.{specs.{Prelude.{IsDeploying, IsErasing, IsScript, spelling, Hall, second, next_version, Full, Waiting, Started, Machine, UnknownToken, Commissioning, New, Uefi64, machine_is, nothing, refused, script, some_is}, Refusing.IsRefusal, Laws.{AreTyped, CountsSome, CountsVerdict, FirstRequest, GivesText, HasStatus, IsDeployed, IsFrame, IsMachineAt, IsMade, IsWaiting, KeyedRequest, MakesBoot, MakesMachine, MakesOrder}, Past.{CountsReport, IsAccepted, IsEntry, WasAnswered}, Worked.{ada, boot, mac, order, token}, WorkedLaws.{plain_typed, the_image, typed, worked_purpose, worked_script}}, proofs.{Computing.computed, Day.{added_again, adds, boot_started, booted_locally, client, client_enlisted, commission_booted, commission_done, commission_script, commissioned, commissioning, day, deploy_booted, deploy_script, deployed, erase_booted, erase_script, erasing_begun, frame_unanswered, machine_added, new_machine, order_done, token_unknown, until_deployed}}}

-- ---- types

-- what the day's arrivals bring is of its type
day_is_typed : AreTyped day
day_is_typed = (typed _ (the_image _ _), plain_typed (drop 1 day) refl refl)

-- ---- scripts

-- a script is given
gives_script : commission_booted.step.answer ≡ Some (script commission_script)
gives_script = refl

-- a Deployed machine asks
deployed_asks : WasAnswered booted_locally.step (event.Script mac) (script (local_script Uefi64)) × IsMachineAt booted_locally.step.before mac deployed × IsDeployed deployed
unfolding texts numbers
deployed_asks = (record { event = refl; answer = refl }, record { interface = record { mac = mac; machine = 1 }; recorded = simp (computed); found = simp (computed) }, refl)

-- a script is given whose kernel erases disks
pub gives_erasing : GivesText mac erase_script erase_booted.step × IsScript erase_script × IsErasing (spelling erase_script)
unfolding purpose_text
gives_erasing = (
  record { event = refl; answer = refl },
  worked_script purpose.Erase (Some Full) 3 stage.Offered (omega arith),
  worked_purpose purpose.Erase (Some Full) 3 stage.Offered (omega arith),
)

-- a script is given whose kernel writes an image to a disk
pub gives_deploying : GivesText mac deploy_script deploy_booted.step × IsScript deploy_script × IsDeploying (spelling deploy_script)
unfolding purpose_text
gives_deploying = (
  record { event = refl; answer = refl },
  worked_script purpose.Deploy None 2 stage.Offered (omega arith),
  worked_purpose purpose.Deploy None 2 stage.Offered (omega arith),
)

-- ---- counting

counts_started : CountsReport 1 Started boot_started.step
counts_started = (token, record { event = refl; answer = refl })

counts_verdict : CountsVerdict 1 commission_done.step
counts_verdict = inl (token, record { event = refl; answer = refl })

counts_answer : CountsSome 1 order_done.step
counts_answer = (Turned, (_, record { event = refl; answer = refl }))

-- ---- numbers and entries

pub makes_machine : MakesMachine 1 machine_added.step
unfolding numbers
makes_machine = (new_machine, simp (computed), simp (computed))

makes_boot : MakesBoot 1 commission_booted.step
unfolding numbers
makes_boot = (boot 1 purpose.Commission stage.Offered, simp (computed), simp (computed))

makes_order : MakesOrder 1 commissioned.step
unfolding numbers
makes_order = (order 1 Waiting, simp (computed), simp (computed))

enters : IsEntry 1 commissioned.step
unfolding numbers
enters = (commissioning, simp (computed), λ was is same. by was (sym is ∙ simp (computed)) same)
  where
    by : (was : Machine) → Some was ≡ Some new_machine → was.status ≡ Commissioning → ⊥
    by was is same = let apart : New ≡ Commissioning = sym (ap (λ (m : Machine). m.status) (some_is was new_machine is)) ∙ same in cc

machine_stood : at commissioned.step.before.machines 1 ≡ Some new_machine
unfolding numbers
machine_stood = simp (computed)

version_rose : (at commissioned.step.after.machines 1 ≡ Some commissioning) × (commissioning.version ≡ next_version new_machine.version)
unfolding numbers
version_rose = (simp (computed), refl)

-- ---- request keys

-- where there is a row afterwards and there was none, the hall is another
another : (m : Machine) → at machine_added.step.after.machines 1 ≡ Some m → at machine_added.step.before.machines 1 ≡ None → machine_added.step.after ≢ machine_added.step.before
another m is none same = let e = sym is ∙ ap (λ (h : Hall). at h.machines 1) same ∙ none in cc

pub accepts : IsAccepted ada.name (4 ∷ []) adds (machine_is 1 New 1) machine_added.step
unfolding texts
accepts = record {
  bearer = Some ada.digest;
  by = ada;
  known = simp (computed);
  named = refl;
  answered = record { event = refl; answer = refl };
  accepted = λ refusal. let e = refusal.1 in cc;
  changes = another makes_machine.0 makes_machine.2 makes_machine.1;
}

accepted_before : FirstRequest ada.name (4 ∷ []) (until_deployed ++ booted_locally.step ∷ erasing_begun.step ∷ erase_booted.step ∷ client_enlisted.step ∷ frame_unanswered.step ∷ [])
accepted_before = record { command = adds; content = machine_is 1 New 1; accepted = inr (inr (inr (inl accepts))) }

comes_again : KeyedRequest ada.name (4 ∷ []) added_again.step
unfolding texts
comes_again = record {
  bearer = Some ada.digest;
  by = ada;
  command = adds;
  content = _;
  known = simp (computed);
  named = refl;
  answered = record { event = refl; answer = refl };
}

again_is_ok : HasStatus 200 (reply_of second comes_again.content)
unfolding comes_again reply_of
again_is_ok = refl

-- ---- orders and refusals

order_waits : (at commissioned.step.after.orders 1 ≡ Some (order 1 Waiting)) × IsWaiting (order 1 Waiting)
unfolding numbers
order_waits = (simp (computed), refl)

order_waits_no_more : (at commission_booted.step.before.orders 1 ≡ Some (order 1 Ended)) × (at commission_booted.step.after.orders 1 ≡ Some (order 1 Ended)) × ¬ (IsWaiting (order 1 Ended))
unfolding numbers
order_waits_no_more = (simp (computed), simp (computed), λ waits. cc)

is_refused : (token_unknown.step.answer ≡ Some (refused UnknownToken)) × IsRefusal (refused UnknownToken)
is_refused = (refl, (UnknownToken, refl))

frame_is_silent : (frame_unanswered.step.answer ≡ Some nothing) × IsFrame frame_unanswered.step.arrival.event
frame_is_silent = (refl, (port.Boot, client, refl))

enlists : IsMade 2 client_enlisted.step
unfolding numbers
enlists = (simp (computed), inl (port.Discover, client, refl))
