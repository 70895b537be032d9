-- Commands that erase disks, delete machines, or switch off or restart what may run on them.
use Rattle.std.specs.Prelude.{ℕ, Bool, true, false, Option, Some, None}
use Rattle.hall_events.specs.declared.command.{HallCommand.{HallCommand, TheVariants.OnMachine}, MachineCommand.{MachineCommand, TheVariants.{Delete, Release, Act}}}
use Rattle.hall_types.specs.declared.act.Act.{Act as Word, TheVariants.{Rescue, ExitRescue}}

-- the word restarts what may run on a machine
abbrev pub restarts : Word → Bool
restarts Rescue = true
restarts ExitRescue = true
restarts other = false

-- the command on a machine deletes it, releases it, with its disks erased or not, or restarts it
abbrev pub is_dangerous_on : MachineCommand → Bool
is_dangerous_on Delete = true
is_dangerous_on (Release erase) = true
is_dangerous_on (Act word) = restarts word
is_dangerous_on other = false

-- the command deletes a machine, releases it or restarts it
abbrev pub is_dangerous : HallCommand → Bool
is_dangerous (OnMachine machine version command) = is_dangerous_on command
is_dangerous other = false

-- the machine of a command that names no version, and what is done to it
abbrev pub unversioned : HallCommand → Option (ℕ × MachineCommand)
unversioned (OnMachine machine None command) = Some (machine, command)
unversioned other = None

-- a command on a machine with a version, in place of one without
abbrev pub versioned : HallCommand → ℕ → Option (ℕ × MachineCommand) → HallCommand
versioned command version None = command
versioned command version (Some on) = OnMachine on.0 (Some version) on.1

-- the command with the version that the machine must have, unless it has one
abbrev pub with_version : HallCommand → ℕ → HallCommand
with_version command version = versioned command version (unversioned command)
