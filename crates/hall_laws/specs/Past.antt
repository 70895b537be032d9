-- What a past says: read off the arrivals, the answers and the halls between, never from a column that says it.
use Rattle.std.specs.{Prelude.{◌≡◌, ◌≢◌, ◌⊎◌, ℕ, List, [], ◌∷◌, ◌++◌, Option, Some, None}, List.AllByRecursion}
use Rattle.hall_types.specs.Rows.{at}
use Rattle.hall_events.specs.declared.event.Event.TheVariants as event
use Rattle.hall_laws.specs.{Prelude.{Boot, Outcome, Progress, Machine, Operator, EnteringRescue, Rescue, Content, counted, HallCommand, Event, sender}, Refusing.IsRefusal, Step.Step}

-- ---- steps of a past

-- each step of a run, with the steps before it
abbrev pub AtEachStep : (List Step → Step → Type 0) → List Step → Type 0
AtEachStep P steps = (past : List Step) (s : Step) (later : List Step) → steps ≡ past ++ (s ∷ later) → P past s

-- no step among these is one
abbrev pub NoneOf : (Step → Type 0) → List Step → Type 0
NoneOf P steps = AllByRecursion (λ s. P s → ⊥) steps

-- some step among these is one
abbrev pub SomeOf : (Step → Type 0) → List Step → Type 0
SomeOf P [] = ⊥
SomeOf P (s ∷ steps) = P s ⊎ SomeOf P steps

-- the last step that is one
pub record Last (P : Step → Type 0) (past : List Step) : Type 0 where
  pub earlier : List Step
  pub step : Step
  pub later : List Step
  pub are : past ≡ earlier ++ (step ∷ later)
  pub is : P step
  pub none_later : NoneOf P later

-- ---- what a step is

-- this event came, and was answered so
pub record WasAnswered (s : Step) (e : Event) (content : Content) : Type 0 where
  pub event : s.arrival.event ≡ e
  pub answer : s.answer ≡ Some content

-- an entry of the machine: the step makes it, or changes its status
abbrev pub IsEntry : ℕ → Step → Type 0
IsEntry id s =
    (m : Machine) × (at s.after.machines id ≡ Some m) × ((k : Machine) → at s.before.machines id ≡ Some k → k.status ≢ m.status)

-- the entry from Entering rescue to Rescue, at which the machine keeps its boot
abbrev pub IsRescueEntry : ℕ → Step → Type 0
IsRescueEntry id s =
    (k m : Machine) × (at s.before.machines id ≡ Some k) × (at s.after.machines id ≡ Some m) × (k.status ≡ EnteringRescue) × (m.status ≡ Rescue)

-- any other entry
abbrev pub IsOtherEntry : ℕ → Step → Type 0
IsOtherEntry id s = IsEntry id s × (IsRescueEntry id s → ⊥)

-- the boot is issued for the machine: at a script request its row is there afterwards, and before there was none
pub record IsIssue (id : ℕ) (b : Boot) (s : Step) : Type 0 where
  pub mac : List ℕ
  pub asked : s.arrival.event ≡ event.Script mac
  pub before : at s.before.boots b.number ≡ None
  pub after : at s.after.boots b.number ≡ Some b
  pub machine : b.machine ≡ id

-- some boot is issued for the machine
abbrev pub IssuesFor : ℕ → Step → Type 0
IssuesFor id s = (b : Boot) × IsIssue id b s

-- the operator's command is accepted: it isn't refused, and the hall is another afterwards
pub record IsAccepted (operator key : List ℕ) (command : HallCommand) (content : Content) (s : Step) : Type 0 where
  pub bearer : Option (List ℕ)
  pub by : Operator
  pub known : sender s.before bearer ≡ Some by
  pub named : by.name ≡ operator
  pub answered : WasAnswered s (event.Command bearer key command) content
  pub accepted : IsRefusal content → ⊥
  pub changes : s.after ≢ s.before

-- a report of the boot with this number counts
abbrev pub CountsReport : ℕ → Progress → Step → Type 0
CountsReport number progress s = (token : List ℕ) × WasAnswered s (event.Report number token progress) counted

-- an answer to the order with this number counts
abbrev pub CountsAnswer : ℕ → Outcome → Step → Type 0
CountsAnswer number outcome s = (bearer : Option (List ℕ)) × WasAnswered s (event.OrderAnswer bearer number outcome) counted

-- ---- what a past says of a machine

-- its own boot: the last one that was issued for it, with no entry since but the one into Rescue
pub record IsOwnBoot (id : ℕ) (b : Boot) (past : List Step) : Type 0 where
  pub issue : Last (IssuesFor id) past
  pub is : IsIssue id b issue.step
  pub since : NoneOf (IsOtherEntry id) issue.later
