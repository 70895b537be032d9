-- Worked sequences, computed on the definitions alone: the days of a machine that is commissioned, rescued and erased.
use Rattle.std.{proofs.Common.{◌≡◌, ℕ, true, false, List, [], ◌∷◌, Some, None, Ok, Err, refl}, specs.{Prelude.{⊤, codes}, Fmt.digits}}
use Rattle.hex.proofs.OnLiterals.{hex_on_literals}
use Rattle.pxe_vendor.specs.declared.arch.Arch.TheVariants.{Uefi64}
use Rattle.ipxe_script.specs.Script.{spelling}
use Rattle.hall_types.specs.{Image.BootImage, Machine.blank_machine, Kinds.{purpose_text, erase_text}, Status.status_number, declared.{boot.Boot.Boot, change.RowWrite.TheVariants.{PutMachine, PutBoot, PutOrder, PutNumbers}, kinds.OrderKind.TheVariants.{Cycle, Off}, machine.Machine.Machine, order.Order.Order}}
use Rattle.hall_types.specs.declared.kinds.Erase.TheVariants as erase
use Rattle.hall_types.specs.declared.kinds.OrderStage.TheVariants as order
use Rattle.hall_types.specs.declared.kinds.Outcome.TheVariants as outcome
use Rattle.hall_types.specs.declared.kinds.Progress.TheVariants as report
use Rattle.hall_types.specs.declared.kinds.Purpose.TheVariants as purpose
use Rattle.hall_types.specs.declared.kinds.Stage.TheVariants as stage
use Rattle.hall_types.specs.declared.refusal.Refusal.TheVariants as refusal
use Rattle.hall_types.specs.declared.status.Status.TheVariants as status
use Rattle.life_cycle.specs.{Entering.{limit_of, keeps_owner, boot_after, is_rescue, is_origin, back_after, keeps_erase}, Table.step_of}
use Rattle.boot_desk.specs.{Class.class_in, Expiry.swept, Fetch.{Fetched, fetched}, Following.followed, OrderAnswer.answered, Report.reported, Texts.{local_script, hold_script, work_script}, declared.{fault.Verdict.TheVariants.{Counted, Repeat}, views.BootView.BootView}}

unfoldable decisions : ⊤
unfolding class_in swept fetched followed answered reported local_script hold_script work_script limit_of keeps_owner boot_after is_rescue is_origin back_after keeps_erase step_of status_number purpose_text erase_text digits hex_on_literals
decisions = tt

abbrev token : List ℕ
token = 0 ∷ 1 ∷ 2 ∷ 3 ∷ 4 ∷ 5 ∷ 6 ∷ 7 ∷ 8 ∷ 9 ∷ 10 ∷ 11 ∷ 12 ∷ 13 ∷ 14 ∷ 15 ∷ []

abbrev host : List ℕ
host = codes "hall.example"

abbrev live : BootImage
live = record {
  name = codes "live64";
  arch = Uefi64;
  kernel = codes "http://files.example/live/vmlinuz";
  initrd = codes "http://files.example/live/initrd";
  args = codes "quiet" ∷ [];
}

-- machine 1, commissioned with tests at 1000
abbrev commissioning : Machine
commissioning = record (blank_machine 1 Uefi64 (codes "lab") None) {
  status = status.Commissioning;
  tests = true;
  version = 2;
  deadline = Some 2800;
  waiting = Some 1;
}

abbrev waits_for : ℕ → Order
waits_for number = record { number = number; machine = 1; kind = Cycle; stage = order.Waiting }

abbrev view : Machine → BootView
view m = record {
  machine = m;
  boot = None;
  order = Some (waits_for 1);
  live = Some live;
  image = None;
  numbers = record { machine = 1; boot = 0; order = 1 };
}

-- ---- the first boot

abbrev boot_1 : Boot
boot_1 = record { number = 1; machine = 1; purpose = purpose.Commission; token = token; stage = stage.Offered }

abbrev booted : Machine
booted = record commissioning { version = 3; boot = Some 1; boots = 1 }

abbrev kernel_text : Fetched → List ℕ
kernel_text (Ok answer) = spelling answer.1
kernel_text (Err refusal) = []

boot_is_issued : fetched host (view commissioning) 1010 token
    ≡ Ok (PutMachine booted (Some 2) ∷ PutBoot boot_1 ∷ PutNumbers (record { machine = 1; boot = 1; order = 1 }) ∷ [], work_script host purpose.Commission None boot_1 live)
unfolding decisions
boot_is_issued = refl

text_of_first_boot : kernel_text (fetched host (view commissioning) 1010 token)
    ≡ codes "#!ipxe\nkernel http://files.example/live/vmlinuz quiet hall.purpose=commission hall.boot=1 hall.token=000102030405060708090a0b0c0d0e0f hall.desk=http://hall.example\ninitrd http://files.example/live/initrd\nboot\n"
unfolding decisions
text_of_first_boot = refl

-- the machine with its first boot, offered or further on
abbrev view_of_boot : Machine → Boot → BootView
view_of_boot m b = record (view m) { boot = Some b; numbers = record { machine = 1; boot = 1; order = 1 } }

offered_boot_is_given_again : fetched host (view_of_boot booted boot_1) 1020 [] ≡ Ok ([], work_script host purpose.Commission None boot_1 live)
unfolding decisions
offered_boot_is_given_again = refl

-- ---- its reports

abbrev started : Boot
started = record boot_1 { stage = stage.Started }

boot_is_reported_started : reported (Some (record { asked = boot_1; at = view_of_boot booted boot_1 })) token report.Started 1050
    ≡ Ok (PutBoot started ∷ [], Counted)
unfolding decisions
boot_is_reported_started = refl

abbrev done : Boot
done = record boot_1 { stage = stage.Done }

-- tests were asked for
abbrev testing : Machine
testing = record booted { status = status.Testing; version = 4; deadline = Some 4700; boot = None; boots = 0; waiting = Some 2 }

commissioning_is_done : reported (Some (record { asked = started; at = view_of_boot booted started })) token report.Done 1100
    ≡ Ok (
      PutBoot done ∷ PutMachine testing (Some 3) ∷ PutOrder (record (waits_for 1) { stage = order.Withdrawn })
          ∷ PutOrder (waits_for 2) ∷ PutNumbers (record { machine = 1; boot = 1; order = 2 }) ∷ [],
      Counted,
    )
unfolding decisions
commissioning_is_done = refl

-- it isn't the machine's current boot any more
report_is_repeated : reported (Some (record { asked = done; at = view testing })) token report.Started 1101 ≡ Ok ([], Repeat)
unfolding decisions
report_is_repeated = refl

verdict_is_spent : reported (Some (record { asked = done; at = view testing })) token report.Failed 1101 ≡ Err refusal.Spent
unfolding decisions
verdict_is_spent = refl

boot_is_superseded : reported (Some (record { asked = started; at = view testing })) token report.Done 1101 ≡ Err refusal.Stale
unfolding decisions
boot_is_superseded = refl

token_is_another : reported (Some (record { asked = started; at = view_of_boot booted started })) [] report.Done 1101 ≡ Err refusal.NoBoot
unfolding decisions
token_is_another = refl

-- ---- a fourth boot, and a deadline

abbrev failed : ℕ → Machine
failed version = record commissioning { status = status.FailedCommissioning; version = version; deadline = None; waiting = None }

fourth_boot_fails_the_status : fetched host (view_of_boot (record booted { boots = 3; version = 5 }) started) 1200 token
    ≡ Ok (PutMachine (failed 6) (Some 5) ∷ PutOrder (record (waits_for 1) { stage = order.Withdrawn }) ∷ [], hold_script)
unfolding decisions
fourth_boot_fails_the_status = refl

deadline_is_not_due : swept (Some (view commissioning)) 2799 ≡ []
unfolding decisions
deadline_is_not_due = refl

deadline_is_due : swept (Some (view commissioning)) 2800
    ≡ PutMachine (failed 3) (Some 2) ∷ PutOrder (record (waits_for 1) { stage = order.Withdrawn }) ∷ []
unfolding decisions
deadline_is_due = refl

-- ---- erasing, and the order to turn the machine off

abbrev erasing : Machine
erasing = record commissioning {
  status = status.DiskErasing;
  owner = Some (codes "olga");
  image = Some (codes "jammy");
  erase = Some erase.Quick;
  version = 11;
  deadline = Some 9000;
}

text_of_erasing : kernel_text (fetched host (record (view erasing) { numbers = record { machine = 1; boot = 3; order = 4 } }) 1800 token)
    ≡ codes "#!ipxe\nkernel http://files.example/live/vmlinuz quiet hall.purpose=erase hall.erase=quick hall.boot=4 hall.token=000102030405060708090a0b0c0d0e0f hall.desk=http://hall.example\ninitrd http://files.example/live/initrd\nboot\n"
unfolding decisions
text_of_erasing = refl

abbrev releasing : Machine
releasing = record erasing { status = status.Releasing; erase = None; version = 13; deadline = Some 3000; waiting = Some 5 }

abbrev off : Order
off = record { number = 5; machine = 1; kind = Off; stage = order.Waiting }

abbrev released : Machine
released = record releasing { status = status.Ready; owner = None; image = None; version = 14; deadline = None; waiting = None }

machine_is_off : answered (Some (record { asked = off; at = record (view releasing) { order = Some off } })) outcome.Done 2500
    ≡ Ok (PutOrder (record off { stage = order.Done }) ∷ PutMachine released (Some 13) ∷ [], Counted)
unfolding decisions
machine_is_off = refl

answer_is_repeated : answered (Some (record { asked = record off { stage = order.Done }; at = view released })) outcome.Done 2600 ≡ Ok ([], Repeat)
unfolding decisions
answer_is_repeated = refl

other_answer_is_spent : answered (Some (record { asked = record off { stage = order.Done }; at = view released })) outcome.Failed 2600 ≡ Err refusal.Spent
unfolding decisions
other_answer_is_spent = refl

late_answer_is_withdrawn : answered (Some (record { asked = record off { stage = order.Withdrawn }; at = view released })) outcome.Done 2600 ≡ Err refusal.Withdrawn
unfolding decisions
late_answer_is_withdrawn = refl

-- ---- rescue of a Deployed machine

abbrev entering : Machine
entering = record erasing { status = status.EnteringRescue; back = Some status.Deployed; erase = None; boot = Some 1; boots = 1 }

abbrev rescue_boot : Boot
rescue_boot = record boot_1 { purpose = purpose.Rescue }

-- it keeps its boot and waits for no order
abbrev in_rescue : Machine
in_rescue = record entering { status = status.Rescue; version = 12; deadline = None; boots = 0; waiting = None }

rescue_begins : reported (Some (record { asked = rescue_boot; at = view_of_boot entering rescue_boot })) token report.Started 3000
    ≡ Ok (PutBoot (record rescue_boot { stage = stage.Started }) ∷ PutMachine in_rescue (Some 11) ∷ PutOrder (record (waits_for 1) { stage = order.Withdrawn }) ∷ [], Counted)
unfolding decisions
rescue_begins = refl

rescue_is_never_done : reported (Some (record { asked = record rescue_boot { stage = stage.Started }; at = view_of_boot in_rescue rescue_boot })) token report.Done 3100
    ≡ Err refusal.WrongStage
unfolding decisions
rescue_is_never_done = refl

-- it boots its own disk while its rescue ends, though the boot is offered still
own_disk_while_rescue_ends : fetched host (view_of_boot (record entering { status = status.ExitingRescue }) rescue_boot) 3200 token
    ≡ Ok ([], local_script Uefi64)
unfolding decisions
own_disk_while_rescue_ends = refl
