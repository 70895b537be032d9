-- What a command that isn't refused makes of a hall, and what it answers.
use Rattle.std.specs.{Prelude.{◌≡◌, ⊤, ℕ, true, false, List, [], ◌∷◌, Option, Some, None, Result, Ok, Err, if◌then◌else◌}, Str.bytes_eq}
use Rattle.hall_types.specs.declared.act.Act.TheVariants as does
use Rattle.hall_types.specs.declared.refusal.Refusal.TheVariants as cause
use Rattle.hall_events.specs.declared.command.MachineCommand.TheVariants as on
use Rattle.life_cycle.specs.Table.{step_of}
use Rattle.life_cycle.specs.declared.action.Action.TheVariants as act
use Rattle.desk_command.specs.{Prelude.{Arch, next_number, next_version, RowWrite, PutOperator, PutPool, PutMember, PutImage, ImageGone, PutLive, PutMachine, MachineGone, PutInterface, InterfaceGone, PutNumbers, Machine, Operator, Refusal, blank_machine, Content, machine_is, machine_gone, done, HallCommand, AddOperator, DisableOperator, AddPool, Grant, AddImage, DeleteImage, SetLive, AddMachine, OnMachine, MachineCommand, entered, Action, Entered, By, Step, entry_rows, machine_row, DeskFault, Refused, Memory}, Causes.release_action, declared.{effects.Subject.Subject, view.CommandView.CommandView}}
use Rattle.desk_command.specs.declared.effects.Subject.TheVariants as subject

-- the rows to write and what is answered, or a refusal
abbrev pub Effect : Type 0
Effect = Result (List RowWrite × Content) Refusal

-- the answer about a machine as it is afterwards
abbrev pub about : Machine → Content
about m = machine_is m.id m.status m.version

-- ---- a machine that enters a status

-- what the command sets before the machine enters its status
abbrev pub prepared : MachineCommand → Operator → Machine → Machine
prepared (on.Commission tests) o m = record m { tests = tests }
prepared (on.Act does.Allocate) o m = record m { owner = Some o.name }
prepared (on.Deploy image) o m = record m { image = Some image }
prepared (on.Release erase) o m = record m { erase = erase }
prepared other o m = m

abbrev pub entry_effect : CommandView → Machine → Option Entered → Effect
entry_effect v m None = Err cause.Exhausted
entry_effect v m (Some e) = Ok (entry_rows m v.order e, about e.machine)

abbrev pub step_effect : CommandView → Operator → Machine → MachineCommand → ℕ → Option Step → Effect
step_effect v o m command moment None = Err cause.WrongStatus
step_effect v o m command moment (Some step) =
    entry_effect v m (entered (prepared command o m) step moment v.numbers)

-- the machine takes the step that the table has for the action
abbrev pub acted : CommandView → Operator → Machine → MachineCommand → ℕ → Action → Effect
acted v o m command moment action = step_effect v o m command moment (step_of m (By action))

-- ---- a machine that stays in its status

-- a change of the row or of the interfaces raises the version
abbrev pub raised : Machine → Machine
raised m = record m { version = next_version m.version }

-- the row is put in the place of the one before, with other rows after it
abbrev pub edited : Machine → Machine → List RowWrite → Effect
edited m after rows = Ok (machine_row m after ∷ rows, about after)

-- the machine with what such commands change of it, as another one has that
abbrev pub edit_of : Machine → Machine → Machine
edit_of m after = record m { version = after.version; pool = after.pool; locked = after.locked }

-- a machine that is in the pool already stays as it is
abbrev pub moved_to_pool : Machine → List ℕ → Effect
moved_to_pool m pool =
    if bytes_eq m.pool pool then Ok ([], about m) else edited m (record (raised m) { pool = pool }) []

abbrev pub machine_effect : CommandView → Operator → Machine → MachineCommand → ℕ → Effect
machine_effect v o m (on.AddInterface mac) moment =
    edited m (raised m) (PutInterface (record { mac = mac; machine = m.id }) ∷ [])
machine_effect v o m (on.RemoveInterface mac) moment = edited m (raised m) (InterfaceGone mac ∷ [])
machine_effect v o m (on.SetPool pool) moment = moved_to_pool m pool
machine_effect v o m (on.Commission tests) moment = acted v o m (on.Commission tests) moment act.Commission
machine_effect v o m on.Delete moment = Ok (MachineGone m.id ∷ [], machine_gone m.id)
machine_effect v o m (on.Deploy image) moment = acted v o m (on.Deploy image) moment act.Deploy
machine_effect v o m (on.Release erase) moment = acted v o m (on.Release erase) moment (release_action erase)
machine_effect v o m (on.Act does.Lock) moment = edited m (record (raised m) { locked = true }) []
machine_effect v o m (on.Act does.Unlock) moment = edited m (record (raised m) { locked = false }) []
machine_effect v o m (on.Act a) moment = acted v o m (on.Act a) moment (act.Act a)

abbrev pub machine_effect_if : Option Machine → CommandView → Operator → MachineCommand → ℕ → Effect
machine_effect_if None v o command moment = Err cause.NoMachine
machine_effect_if (Some m) v o command moment = machine_effect v o m command moment

-- ---- other commands

-- a machine that an operator adds is New, with one interface and the next number
abbrev pub added : CommandView → List ℕ → Arch → List ℕ → Option (List ℕ) → Option ℕ → Effect
added v mac arch pool uuid None = Err cause.Exhausted
added v mac arch pool uuid (Some id) =
    Ok (
      PutMachine (blank_machine id arch pool uuid) None
          ∷ PutInterface (record { mac = mac; machine = id })
          ∷ PutNumbers (record v.numbers { machine = id })
          ∷ [],
      about (blank_machine id arch pool uuid),
    )

-- an operator that is disabled already stays as it is
abbrev pub disabled : Option Operator → Effect
disabled None = Err cause.NoOperator
disabled (Some o) = if o.enabled then Ok (PutOperator (record o { enabled = false }) ∷ [], done) else Ok ([], done)

-- the image becomes the live one of its architecture
abbrev pub live_image : List ℕ → Option Arch → Effect
live_image image None = Err cause.NoImage
live_image image (Some arch) = Ok (PutLive (record { arch = arch; image = image }) ∷ [], done)

unfoldable pub effect : CommandView → Operator → HallCommand → ℕ → Effect
effect v o (AddOperator name role digest) moment =
    Ok (PutOperator (record { name = name; role = role; digest = digest; enabled = true }) ∷ [], done)
effect v o (DisableOperator name) moment = disabled v.operator
effect v o (AddPool pool) moment = Ok (PutPool (record { name = pool }) ∷ [], done)
effect v o (Grant pool name) moment = Ok (PutMember (record { pool = pool; operator = name }) ∷ [], done)
effect v o (AddImage image) moment = Ok (PutImage image ∷ [], done)
effect v o (DeleteImage image) moment = Ok (ImageGone image ∷ [], done)
effect v o (SetLive image) moment = live_image image v.image
effect v o (AddMachine mac arch pool uuid) moment = added v mac arch pool uuid (next_number v.numbers.machine)
effect v o (OnMachine id version command) moment = machine_effect_if v.machine v o command moment

-- ---- what the code answers before it has a text

abbrev pub content_of : Subject → Content
content_of (subject.Machine m) = about m
content_of (subject.Gone id) = machine_gone id
content_of subject.Done = done

-- the rows and the answer are the effect's, or its refusal, or memory was wanting
abbrev pub Effects : Result (List RowWrite × Subject) DeskFault → Effect → Type 0
Effects (Ok made) is = is ≡ Ok (made.0, content_of made.1)
Effects (Err (Refused refusal)) is = is ≡ Err refusal
Effects (Err Memory) is = ⊤
