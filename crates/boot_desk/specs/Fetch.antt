-- What a machine is given that asks for its script.
use Rattle.std.specs.Prelude.{ℕ, ◌==◌, ◌+◌, ◌&&◌, not, Bool, true, false, List, [], ◌∷◌, Option, Some, None, Result, Ok, Err, if◌then◌else◌}
use Rattle.hall_types.specs.{Image.BootImage, Number.{next_number, next_version}, declared.{boot.{Boot.Boot, TheConstants.MAX_BOOTS}, kinds.{Purpose.Purpose, Stage.{Stage, TheVariants.Offered}}, machine.Machine.Machine, status.Status.{Status, TheVariants.Rescue}, change.RowWrite.{RowWrite, TheVariants.{PutBoot, PutNumbers}}, refusal.Refusal.{Refusal, TheVariants.Exhausted}}}
use Rattle.hall_types.specs.declared.kinds.Purpose.TheVariants as purpose
use Rattle.ipxe_script.specs.declared.command.Command.{Command}
use Rattle.life_cycle.specs.{Table.step_of, declared.signal.Signal.TheVariants.FourthBoot}
use Rattle.boot_desk.specs.{declared.{class.ScriptClass.{ScriptClass, TheVariants.{Local, Work, Hold}}, views.BootView.BootView}, Class.class_of, Following.{machine_row, followed, answering}, Texts.{local_script, hold_script, work_script}}

-- the rows to write and the script to give, or a refusal
abbrev pub Fetched : Type 0
Fetched = Result (List RowWrite × List Command) Refusal

-- a machine is deployed with its own image, and does all other work with the live image
abbrev pub image_for : Purpose → BootView → Option BootImage
image_for purpose.Deploy v = v.image
image_for other v = v.live

abbrev pub is_offered : Stage → Bool
is_offered Offered = true
is_offered other = false

-- a boot that is offered still
abbrev pub offered_boot : Option Boot → Option Boot
offered_boot None = None
offered_boot (Some b) = if is_offered b.stage then Some b else None

abbrev pub is_rescue_mode : Status → Bool
is_rescue_mode Rescue = true
is_rescue_mode other = false

-- boots are counted but in Rescue mode
abbrev pub boots_after : Status → ℕ → ℕ
boots_after Rescue boots = boots
boots_after other boots = boots + 1

-- a new boot, whose token is the arrival's fresh octets
abbrev pub new_boot : ℕ → Machine → Purpose → List ℕ → Boot
new_boot number m purpose fresh =
    record { number = number; machine = m.id; purpose = purpose; token = fresh; stage = Offered }

-- the machine with its new boot
abbrev pub booted : ℕ → Machine → Machine
booted number m = record m {
  boot = Some number;
  boots = boots_after m.status m.boots;
  version = next_version m.version;
}

-- a boot is issued, if there is a number for it
abbrev pub issued : List ℕ → BootView → Purpose → BootImage → List ℕ → Option ℕ → Fetched
issued host v purpose image fresh None = Err Exhausted
issued host v purpose image fresh (Some number) =
    Ok (
      machine_row v.machine (booted number v.machine)
          ∷ PutBoot (new_boot number v.machine purpose fresh)
          ∷ PutNumbers (record v.numbers { boot = number })
          ∷ [],
      work_script host purpose v.machine.erase (new_boot number v.machine purpose fresh) image,
    )

-- three boots were issued in this status, and the last one has begun
abbrev pub is_fourth : Machine → Bool
is_fourth m = (m.boots == MAX_BOOTS) && not (is_rescue_mode m.status)

-- The boot that is offered is given again. The fourth boot of a status fails the status. Else a new one is issued.
abbrev pub worked : List ℕ → BootView → ℕ → List ℕ → Purpose → BootImage → Option Boot → Fetched
worked host v moment fresh purpose image (Some b) = Ok ([], work_script host purpose v.machine.erase b image)
worked host v moment fresh purpose image None =
    if is_fourth v.machine then answering hold_script (followed [] v moment (step_of v.machine FourthBoot))
    else issued host v purpose image fresh (next_number v.numbers.boot)

-- a machine whose image isn't recorded is held
abbrev pub worked_if : List ℕ → BootView → ℕ → List ℕ → Purpose → Option BootImage → Fetched
worked_if host v moment fresh purpose None = Ok ([], hold_script)
worked_if host v moment fresh purpose (Some image) =
    worked host v moment fresh purpose image (offered_boot v.boot)

abbrev pub fetched_by : ScriptClass → List ℕ → BootView → ℕ → List ℕ → Fetched
fetched_by Local host v moment fresh = Ok ([], local_script v.machine.arch)
fetched_by Hold host v moment fresh = Ok ([], hold_script)
fetched_by (Work purpose) host v moment fresh = worked_if host v moment fresh purpose (image_for purpose v)

-- what a machine is given at this host, at this moment, with these fresh octets
unfoldable pub fetched : List ℕ → BootView → ℕ → List ℕ → Fetched
fetched host v moment fresh = fetched_by (class_of v.machine) host v moment fresh
