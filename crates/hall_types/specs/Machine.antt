-- A machine when it comes into the hall.
use Rattle.std.specs.Prelude.{ℕ, false, List, Option, None}
use Rattle.pxe_vendor.specs.declared.arch.Arch.{Arch}
use Rattle.hall_types.specs.declared.{machine.Machine.Machine, status.Status.TheVariants.New}

-- a New machine of a pool, of which nothing is known but its architecture and its UUID
abbrev pub blank_machine : ℕ → Arch → List ℕ → Option (List ℕ) → Machine
blank_machine id arch pool uuid = record {
  id = id;
  arch = arch;
  uuid = uuid;
  pool = pool;
  status = New;
  owner = None;
  image = None;
  tests = false;
  back = None;
  erase = None;
  locked = false;
  version = 1;
  deadline = None;
  boot = None;
  boots = 0;
  waiting = None;
}
