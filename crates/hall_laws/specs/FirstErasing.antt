-- What a script that erases disks answers in the first schema.
use Rattle.std.specs.Prelude.{◌≡◌, ℕ, List}
use Rattle.ipxe_script.specs.declared.command.Command.{Command}
use Rattle.hall_laws.specs.{Prelude.{IsErasing, spelling, Hall, Erase, Full, Machine, DiskErasing, ErasesBy}, Step.Step, Laws.{GivesText, IsMachineAt, IsReleaseErasing}, Past.{IsEntry, Last}}

-- the machine is in Disk erasing, its last entry was an accepted release with full erasing, by the operator who was its owner just
-- before, and the script names no kind of erasing
pub record IsFullyErased (mac : List ℕ) (commands : List Command) (past : List Step) (h : Hall) : Type 0 where
  pub machine : Machine
  pub asks : IsMachineAt h mac machine
  pub status : machine.status ≡ DiskErasing
  pub entry : Last (IsEntry machine.id) past
  pub release : IsReleaseErasing machine.id Full entry.step
  pub none : (kind : Erase) → ErasesBy kind commands → ⊥

-- each script whose text has a kernel erase disks answers a request for a machine that is fully erased
abbrev pub ErasesFully : List Step → Step → Type 0
ErasesFully past s =
    (mac : List ℕ) (commands : List Command) → GivesText mac commands s → IsErasing (spelling commands) → IsFullyErased mac commands past s.before
