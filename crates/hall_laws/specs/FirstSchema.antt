-- Halls of the first schema, which knows one kind of erasing and doesn't keep it: what they are to halls of the second, and their runs.
use Rattle.std.specs.{Prelude.{◌≡◌, ⊤, ℕ, Bool, not, nat_eq, List, [], ◌∷◌, map, filter, Option, Some, None, option_map, codes, if◌then◌else◌}, List.{AllByRecursion, starts_with}}
use Rattle.ipxe_script.specs.declared.command.Command.{Command}
use Rattle.hall_types.specs.Rows.{at}
use Rattle.hall_events.specs.declared.event.Event.TheVariants as event
use Rattle.life_cycle.specs.Entering.{keeps_erase}
use Rattle.hall_laws.specs.{Prelude.{Kernel, Hall, first, second, Full, Quick, Machine, Content, ListedMachine, machine_list, one_machine, script, OnMachine, Release, Event}, Migration.IsMigrated, Step.{IsStep, Step}}

-- ---- halls

-- a machine as the first schema keeps it
abbrev pub without_kind : Machine → Machine
without_kind m = record m { erase = None }

-- h is x as the first schema has it: each machine is without its kind of erasing, and all else is the same
pub record IsForgotten (x h : Hall) : Type 0 where
  pub was : x.schema ≡ second
  pub machines : (id : ℕ) → at h.machines id ≡ option_map without_kind (at x.machines id)
  pub others : h ≡ record x { schema = first; machines = h.machines }

-- the hall is of the first schema, and no machine keeps a kind of erasing
pub record KeepsNoKind (h : Hall) : Type 0 where
  pub schema : h.schema ≡ first
  pub kinds : (id : ℕ) (m : Machine) → at h.machines id ≡ Some m → m.erase ≡ None

-- the machine keeps the kind `full` in Disk erasing and Failed disk erasing, and no kind elsewhere
abbrev pub KeepsFull : Machine → Type 0
KeepsFull m = m.erase ≡ (if keeps_erase m.status then Some Full else None)

-- so does each machine
abbrev pub AllKeepFull : Hall → Type 0
AllKeepFull h = (id : ℕ) (m : Machine) → at h.machines id ≡ Some m → KeepsFull m

-- ---- answers

-- the argument names a kind of erasing
abbrev pub names_kind : List ℕ → Bool
names_kind word = starts_with nat_eq word (codes "hall.erase=")

-- a kernel is told no kind of erasing
abbrev pub plain_command : Command → Command
plain_command (Kernel uri args) = Kernel uri (filter (λ word. not (names_kind word)) args)
plain_command other = other

-- a script as the first schema gives it
abbrev pub plain : List Command → List Command
plain commands = map plain_command commands

-- a machine as the first schema lists it
abbrev pub plain_listed : ListedMachine → ListedMachine
plain_listed listed = record listed { machine = without_kind listed.machine }

-- what is answered, as the first schema has it
abbrev pub first_content : Content → Content
first_content (script commands) = script (plain commands)
first_content (machine_list machines) = machine_list (map plain_listed machines)
first_content (one_machine machine) = one_machine (plain_listed machine)
first_content other = other

-- ---- steps

-- a release that erases quickly is asked for: the first schema knows none
abbrev pub AsksQuick : Event → Type 0
AsksQuick e =
    (bearer : Option (List ℕ)) × (key : List ℕ) × (id : ℕ) × (version : Option ℕ) × (e ≡ event.Command bearer key (OnMachine id version (Release (Some Quick))))

abbrev pub NeverAsksQuick : Step → Type 0
NeverAsksQuick s = AsksQuick s.arrival.event → ⊥

-- A step of a hall of the first schema: the same arrival comes to the hall carried over, doesn't ask for quick erasing, and the kinds of
-- erasing are forgotten afterwards, in the hall and in the answer.
pub record IsFirstStep (s : Step) : Type 0 where
  pub whole : Step
  pub step : IsStep whole
  pub carried : IsMigrated s.before whole.before
  pub same : whole.arrival ≡ s.arrival
  pub asks : NeverAsksQuick s
  pub forgets : IsForgotten whole.after s.after
  pub answer : s.answer ≡ option_map first_content whole.answer

-- such steps that lead from one hall to another, each from the hall that the one before left
abbrev pub IsFirstRun : Hall → List Step → Hall → Type 0
IsFirstRun h [] end = end ≡ h
IsFirstRun h (s ∷ steps) end = (s.before ≡ h) × IsFirstStep s × IsFirstRun s.after steps end

-- s is a step of the second schema as the first has it: the same arrival, the halls and the answer without kinds of erasing
pub record IsPlain (whole s : Step) : Type 0 where
  pub same : s.arrival ≡ whole.arrival
  pub before : IsForgotten whole.before s.before
  pub after : IsForgotten whole.after s.after
  pub answer : s.answer ≡ option_map first_content whole.answer

-- so is each of these steps, one for one
abbrev pub ArePlain : List Step → List Step → Type 0
ArePlain [] [] = ⊤
ArePlain (whole ∷ wholes) (s ∷ steps) = IsPlain whole s × ArePlain wholes steps
ArePlain wholes steps = ⊥

-- ---- what holds at each step

-- no step of these asks for quick erasing
abbrev pub NoneAsksQuick : List Step → Type 0
NoneAsksQuick steps = AllByRecursion NeverAsksQuick steps

-- each machine keeps `full`, and only where it is to, in the halls of a step
abbrev pub StepKeepsFull : Step → Type 0
StepKeepsFull s = AllKeepFull s.before × AllKeepFull s.after

-- the halls of a step are of the first schema, and no machine keeps a kind of erasing
abbrev pub StepKeepsNoKind : Step → Type 0
StepKeepsNoKind s = KeepsNoKind s.before × KeepsNoKind s.after
