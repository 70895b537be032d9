-- A day, from a new hall, by computation: a machine is added, commissioned, deployed, and released for erasing its disks.
use Rattle.std.{proofs.Common.{◌≡◌, List, [], ◌∷◌, ◌++◌, true, false, Some, None, refl, sym, ap, inl}, specs.Prelude.codes}
use Rattle.hall_laws.{specs.{Prelude.{boot_file_of, Uefi64, Client, Discover, Hall, applied, second, RowWrite, PutBoot, PutImage, PutInterface, PutLive, PutMachine, PutOperator, PutOrder, Full, Waiting, Withdrawn, Done, Started, Power, Machine, Operator, UnknownToken, New, Commissioning, Ready, Allocated, Deploying, Deployed, DiskErasing, blank_machine, Content, boot_file, counted, done, machine_is, nothing, refused, script, stored, HallCommand, AddImage, AddMachine, AddOperator, OnMachine, SetLive, Frame, OrderAnswer, Orders, Script, body_of}, Decision.{Decided, decision_of}, Step.{Arrival, IsRun, IsStep, Step}, Worked.{ada, boot, came, command, host, lasts, live, mac, order, receipt, site, start, token}}, proofs.{Computing.{bytes_eq-itself, computed}, FirstSteps.whole_step as step}}
use Rattle.ipxe_script.specs.declared.command.Command.{Command as Line}
use Rattle.hall_types.specs.{Kinds.arch_number, Rows.{numbers, texts, pairs}, Status.status_number, declared.kinds.{OrderStage.TheVariants.Done as Ended, Outcome.TheVariants.Done as Turned}}
use Rattle.hall_types.specs.declared.kinds.Purpose.TheVariants as purpose
use Rattle.hall_types.specs.declared.kinds.Stage.TheVariants as stage
use Rattle.hall_types.specs.declared.port.Port.TheVariants as port
use Rattle.hall_events.specs.{Reply.reply_of, declared.event.Event.TheVariants.Report}
use Rattle.hall_types.specs.declared.act.Act.TheVariants as does
use Rattle.hall_events.specs.declared.command.MachineCommand.TheVariants as on
use Rattle.life_cycle.specs.{Entering.{back_after, boot_after, is_origin, is_rescue, keeps_erase, keeps_owner, limit_of}, Table.{step_of, who_gives}}
use Rattle.boot_desk.specs.{Class.class_in, Fetch.fetched, Following.followed, FrameEvent.{frame_decision, new_machine as new_machine_of}, OrderAnswer.answered, Report.reported, Texts.{local_script, work_script}}
use Rattle.desk_command.specs.{Causes.{causes, command_view}, Command.{command_decision, commanded}, Effect.effect}

-- ---- what is decided

abbrev pub pow : Operator
pow = record { name = codes "pow"; role = Power; digest = 2 ∷ []; enabled = true }

-- what is answered, and the rows that are written
abbrev pub made : Content → List RowWrite → Decided
made content rows = record { rows = rows; content = content }

-- what came on the day, and what was decided of it
pub record Deed : Type 0 where
  pub step : Step
  pub decided : Decided

abbrev pub deed : Hall → Arrival → Content → List RowWrite → Deed
deed h a content rows = record { step = step h a (made content rows); decided = made content rows }

pub decides_so : (h : Hall) (a : Arrival) (its : Decided) → decision_of a.site h a.event a.moment a.fresh ≡ its → IsStep (step h a its)
decides_so h a its is = inl (record { answer = ap (λ (d : Decided). Some d.content) (sym is); after = ap (λ (d : Decided). applied d.rows h) (sym is) })

model : (d : Deed) → decision_of d.step.arrival.site d.step.before d.step.arrival.event d.step.arrival.moment d.step.arrival.fresh ≡ d.decided
    → IsStep (step d.step.before d.step.arrival d.decided)
model d = decides_so d.step.before d.step.arrival d.decided

-- ---- an image, the power program and a machine

abbrev pub image_added : Deed
image_added = deed start (command 1 (AddImage live)) done (PutImage live ∷ receipt 1 (AddImage live) done ∷ [])

pub image_added-is : IsStep image_added.step
unfolding texts pairs decision_of command_decision commanded causes effect command_view
image_added-is = model image_added (simp (computed))

abbrev pub image_live : Deed
image_live = deed image_added.step.after (command 2 (SetLive live.name)) done
    (PutLive (record { arch = Uefi64; image = live.name }) ∷ receipt 2 (SetLive live.name) done ∷ [])

pub image_live-is : IsStep image_live.step
unfolding texts pairs decision_of command_decision commanded causes effect command_view
image_live-is = model image_live (simp (computed))

abbrev pows : HallCommand
pows = AddOperator pow.name Power pow.digest

abbrev pub power_added : Deed
power_added = deed image_live.step.after (command 3 pows) done (PutOperator pow ∷ receipt 3 pows done ∷ [])

pub power_added-is : IsStep power_added.step
unfolding texts pairs decision_of command_decision commanded causes effect command_view
power_added-is = model power_added (simp (computed))

abbrev pub adds : HallCommand
adds = AddMachine mac Uefi64 (codes "default") None

abbrev pub new_machine : Machine
new_machine = blank_machine 1 Uefi64 (codes "default") None

abbrev pub machine_added : Deed
machine_added = deed power_added.step.after (command 4 adds) (machine_is 1 New 1)
    (PutMachine new_machine None ∷ PutInterface (record { mac = mac; machine = 1 }) ∷ lasts 1 0 0 ∷ receipt 4 adds (machine_is 1 New 1) ∷ [])

pub machine_added-is : IsStep machine_added.step
unfolding texts pairs numbers decision_of command_decision commanded causes effect command_view
machine_added-is = model machine_added (simp (computed))

-- ---- it is commissioned

abbrev pub commissions : HallCommand
commissions = OnMachine 1 None (on.Commission false)

abbrev pub commissioning : Machine
commissioning = record new_machine { status = Commissioning; version = 2; deadline = Some 2800; waiting = Some 1 }

abbrev pub commissioned : Deed
commissioned = deed machine_added.step.after (command 5 commissions) (machine_is 1 Commissioning 2)
    (PutMachine commissioning (Some 1) ∷ PutOrder (order 1 Waiting) ∷ lasts 1 0 1 ∷ receipt 5 commissions (machine_is 1 Commissioning 2) ∷ [])

pub commissioned-is : IsStep commissioned.step
unfolding texts pairs numbers arch_number status_number step_of who_gives limit_of keeps_owner boot_after is_rescue is_origin back_after keeps_erase followed decision_of command_decision commanded causes effect command_view
commissioned-is = model commissioned (simp (computed))

abbrev powered : Machine
powered = record commissioning { waiting = None; version = 3 }

abbrev pub order_done : Deed
order_done = deed commissioned.step.after (came (OrderAnswer (Some pow.digest) 1 Turned)) counted
    (PutOrder (order 1 Ended) ∷ PutMachine powered (Some 2) ∷ [])

pub order_done-is : IsStep order_done.step
unfolding texts numbers status_number step_of who_gives limit_of keeps_owner boot_after is_rescue is_origin back_after keeps_erase answered decision_of
order_done-is = model order_done (simp (computed))

abbrev pub commission_script : List Line
commission_script = work_script host purpose.Commission None (boot 1 purpose.Commission stage.Offered) live

abbrev pub booted : Machine
booted = record powered { boot = Some 1; boots = 1; version = 4 }

abbrev pub commission_booted : Deed
commission_booted = deed order_done.step.after (came (Script mac)) (script commission_script)
    (PutMachine booted (Some 3) ∷ PutBoot (boot 1 purpose.Commission stage.Offered) ∷ lasts 1 1 1 ∷ [])

pub commission_booted-is : IsStep commission_booted.step
unfolding texts numbers arch_number class_in followed fetched decision_of
commission_booted-is = model commission_booted (simp (computed))

abbrev pub boot_started : Deed
boot_started = deed commission_booted.step.after (came (Report 1 token Started)) counted
    (PutBoot (boot 1 purpose.Commission stage.Started) ∷ [])

pub boot_started-is : IsStep boot_started.step
unfolding numbers status_number step_of who_gives limit_of keeps_owner boot_after is_rescue is_origin back_after keeps_erase followed reported decision_of
boot_started-is = model boot_started (simp (computed))

abbrev pub ready : Machine
ready = record new_machine { status = Ready; version = 5 }

abbrev pub commission_done : Deed
commission_done = deed boot_started.step.after (came (Report 1 token Done)) counted
    (PutBoot (boot 1 purpose.Commission stage.Done) ∷ PutMachine ready (Some 4) ∷ [])

pub commission_done-is : IsStep commission_done.step
unfolding numbers status_number step_of who_gives limit_of keeps_owner boot_after is_rescue is_origin back_after keeps_erase followed reported decision_of
commission_done-is = model commission_done (simp (computed))

-- ---- it is allocated and deployed

abbrev allocates : HallCommand
allocates = OnMachine 1 None (on.Act does.Allocate)

abbrev pub allocated : Machine
allocated = record ready { status = Allocated; owner = Some ada.name; version = 6 }

abbrev pub machine_allocated : Deed
machine_allocated = deed commission_done.step.after (command 6 allocates) (machine_is 1 Allocated 6)
    (PutMachine allocated (Some 5) ∷ receipt 6 allocates (machine_is 1 Allocated 6) ∷ [])

pub machine_allocated-is : IsStep machine_allocated.step
unfolding texts pairs numbers arch_number status_number step_of who_gives limit_of keeps_owner boot_after is_rescue is_origin back_after keeps_erase followed decision_of command_decision commanded causes effect command_view
machine_allocated-is = model machine_allocated (simp (computed))

abbrev deploys : HallCommand
deploys = OnMachine 1 None (on.Deploy live.name)

abbrev pub deploying : Machine
deploying = record allocated { status = Deploying; image = Some live.name; version = 7; deadline = Some 3400; waiting = Some 2 }

abbrev pub deploy_begun : Deed
deploy_begun = deed machine_allocated.step.after (command 7 deploys) (machine_is 1 Deploying 7)
    (PutMachine deploying (Some 6) ∷ PutOrder (order 2 Waiting) ∷ lasts 1 1 2 ∷ receipt 7 deploys (machine_is 1 Deploying 7) ∷ [])

pub deploy_begun-is : IsStep deploy_begun.step
unfolding texts pairs numbers arch_number status_number step_of who_gives limit_of keeps_owner boot_after is_rescue is_origin back_after keeps_erase followed decision_of command_decision commanded causes effect command_view
deploy_begun-is = model deploy_begun (simp (computed))

abbrev pub deploy_script : List Line
deploy_script = work_script host purpose.Deploy None (boot 2 purpose.Deploy stage.Offered) live

abbrev pub deploy_booted : Deed
deploy_booted = deed deploy_begun.step.after (came (Script mac)) (script deploy_script)
    (PutMachine (record deploying { boot = Some 2; boots = 1; version = 8 }) (Some 7) ∷ PutBoot (boot 2 purpose.Deploy stage.Offered) ∷ lasts 1 2 2 ∷ [])

pub deploy_booted-is : IsStep deploy_booted.step
unfolding texts numbers arch_number class_in followed fetched decision_of
deploy_booted-is = model deploy_booted (simp (computed))

abbrev pub deployed : Machine
deployed = record allocated { status = Deployed; image = Some live.name; version = 9 }

abbrev pub deploy_done : Deed
deploy_done = deed deploy_booted.step.after (came (Report 2 token Done)) counted
    (PutBoot (boot 2 purpose.Deploy stage.Done) ∷ PutMachine deployed (Some 8) ∷ PutOrder (order 2 Withdrawn) ∷ [])

pub deploy_done-is : IsStep deploy_done.step
unfolding numbers status_number step_of who_gives limit_of keeps_owner boot_after is_rescue is_origin back_after keeps_erase followed reported decision_of
deploy_done-is = model deploy_done (simp (computed))

abbrev pub booted_locally : Deed
booted_locally = deed deploy_done.step.after (came (Script mac)) (script (local_script Uefi64)) []

pub booted_locally-is : IsStep booted_locally.step
unfolding texts numbers arch_number class_in followed fetched decision_of
booted_locally-is = model booted_locally (simp (computed))

-- ---- its owner releases it for erasing its disks

abbrev pub releases : HallCommand
releases = OnMachine 1 None (on.Release (Some Full))

abbrev pub erasing : Machine
erasing = record deployed { status = DiskErasing; erase = Some Full; version = 10; deadline = Some 8200; waiting = Some 3 }

abbrev pub erasing_begun : Deed
erasing_begun = deed booted_locally.step.after (command 8 releases) (machine_is 1 DiskErasing 10)
    (PutMachine erasing (Some 9) ∷ PutOrder (order 3 Waiting) ∷ lasts 1 2 3 ∷ receipt 8 releases (machine_is 1 DiskErasing 10) ∷ [])

pub erasing_begun-is : IsStep erasing_begun.step
unfolding texts pairs numbers arch_number status_number step_of who_gives limit_of keeps_owner boot_after is_rescue is_origin back_after keeps_erase followed decision_of command_decision commanded causes effect command_view
erasing_begun-is = model erasing_begun (simp (computed))

abbrev pub erase_script : List Line
erase_script = work_script host purpose.Erase (Some Full) (boot 3 purpose.Erase stage.Offered) live

abbrev pub erasing_booted : Machine
erasing_booted = record erasing { boot = Some 3; boots = 1; version = 11 }

abbrev pub erase_booted : Deed
erase_booted = deed erasing_begun.step.after (came (Script mac)) (script erase_script)
    (PutMachine erasing_booted (Some 10) ∷ PutBoot (boot 3 purpose.Erase stage.Offered) ∷ lasts 1 3 3 ∷ [])

pub erase_booted-is : IsStep erase_booted.step
unfolding texts numbers arch_number class_in followed fetched decision_of
erase_booted-is = model erase_booted (simp (computed))

-- ---- a client that nobody knows is enlisted; one at the other port isn't answered

abbrev pub client : Client
client = record { mac = 2 ∷ 0 ∷ 0 ∷ 0 ∷ 0 ∷ 1 ∷ []; kind = Discover; arch = Uefi64; uuid = None; echo97 = None; item = None; ipxe = false }

abbrev pub enlisted_machine : Machine
enlisted_machine = new_machine_of 2 client

abbrev pub client_enlisted : Deed
client_enlisted = deed erase_booted.step.after (came (Frame port.Discover client)) (boot_file (boot_file_of client site))
    (PutMachine enlisted_machine None ∷ PutInterface (record { mac = client.mac; machine = 2 }) ∷ lasts 2 3 3 ∷ [])

client_enlisted-is : IsStep client_enlisted.step
unfolding texts numbers frame_decision decision_of
client_enlisted-is = model client_enlisted (simp (computed))

abbrev pub frame_unanswered : Deed
frame_unanswered = deed client_enlisted.step.after (came (Frame port.Boot client)) nothing []

frame_unanswered-is : IsStep frame_unanswered.step
unfolding frame_decision decision_of
frame_unanswered-is = model frame_unanswered (refl)

-- ---- a command comes again, and a request without a token

abbrev pub added_again : Deed
added_again = deed frame_unanswered.step.after (command 4 adds) (stored 200 (body_of (reply_of second (machine_is 1 New 1))))
    []

added_again-is : IsStep added_again.step
unfolding texts pairs numbers arch_number status_number step_of who_gives limit_of keeps_owner boot_after is_rescue is_origin back_after keeps_erase followed decision_of command_decision commanded causes effect command_view
added_again-is = model added_again (simp (computed, bytes_eq-itself))

abbrev pub token_unknown : Deed
token_unknown = deed added_again.step.after (came (Orders None)) (refused UnknownToken) []

token_unknown-is : IsStep token_unknown.step
unfolding decision_of
token_unknown-is = model token_unknown (refl)

-- ---- the day

abbrev pub until_deployed : List Step
until_deployed =
    image_added.step ∷ image_live.step ∷ power_added.step ∷ machine_added.step ∷ commissioned.step ∷ order_done.step ∷ commission_booted.step
    ∷ boot_started.step ∷ commission_done.step ∷ machine_allocated.step ∷ deploy_begun.step ∷ deploy_booted.step ∷ deploy_done.step ∷ []

abbrev pub day : List Step
day = until_deployed ++ booted_locally.step ∷ erasing_begun.step ∷ erase_booted.step ∷ client_enlisted.step ∷ frame_unanswered.step ∷ added_again.step ∷ token_unknown.step ∷ []

-- steps of the model, one after the other
data Goes : Hall → List Step → Hall → Type 0 where
  ends : {h : Hall} → Goes h [] h
  goes : {s : Step} {steps : List Step} {end : Hall} → IsStep s → Goes s.after steps end → Goes s.before (s ∷ steps) end

run_of : {h end : Hall} {steps : List Step} → Goes h steps end → IsRun h steps end
run_of ends = inl refl
run_of (goes is rest) = (inl refl, is, run_of rest)

pub day_runs : IsRun start day token_unknown.step.after
day_runs =
    run_of
    (goes image_added-is (goes image_live-is (goes power_added-is (goes machine_added-is (goes commissioned-is
    (goes order_done-is (goes commission_booted-is (goes boot_started-is (goes commission_done-is (goes machine_allocated-is
    (goes deploy_begun-is (goes deploy_booted-is (goes deploy_done-is (goes booted_locally-is (goes erasing_begun-is
    (goes erase_booted-is (goes client_enlisted-is (goes frame_unanswered-is (goes added_again-is (goes token_unknown-is
    ends))))))))))))))))))))
