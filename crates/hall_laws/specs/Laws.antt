-- The laws of the past, each for a step with the steps before it.
use Rattle.std.specs.{Prelude.{◌≡◌, ◌≢◌, ◌⊎◌, ◌↔◌, ℕ, false, true, List, [], ◌∷◌, ◌++◌, Option, Some, None}, List.AllByRecursion}
use Rattle.hall_types.specs.Rows.{at}
use Rattle.ipxe_script.specs.declared.command.Command.{Command}
use Rattle.hall_types.specs.declared.kinds.Progress.TheVariants as report
use Rattle.hall_types.specs.declared.kinds.Purpose.TheVariants as purpose
use Rattle.hall_events.specs.Reply.{reply_of}
use Rattle.hall_events.specs.declared.command.MachineCommand.TheVariants as on
use Rattle.hall_events.specs.declared.event.Event.TheVariants as event
use Rattle.life_cycle.specs.{Table.step_of, declared.{signal.Signal.TheVariants.Report, step.Step.Step as TableStep}}
use Rattle.boot_desk.specs.Texts.{hold_script, local_script, work_script}
use Rattle.hall_laws.specs.{Prelude.{Client, Port, Boot, Erase, Waiting, Withdrawn, Outcome, Progress, Interface, Machine, Operator, Order, KeyReused, UnknownToken, Deployed, Deploying, DiskErasing, Hall, Schema, new_hall, second, next_version, BootImage, IsDeploying, IsErasing, IsScript, spelling, command_text, Content, counted, nothing, refused, script, HallCommand, OnMachine, MachineCommand, Event, Reply, Http, Action, Signal, Answer, By, Expired, FourthBoot, is_due, is_fourth, offered_boot, ErasesBy, IsSound, row_at, action_of, sender}, Refusing.IsRefusal, Step.{IsRun, IsTypedStep, Step}, Writes.AsksForMachine, Past.{AtEachStep, CountsAnswer, CountsReport, IsAccepted, IsEntry, IsOwnBoot, Last, NoneOf, SomeOf, WasAnswered}}

-- ---- scripts

-- the machine that an address is recorded with
pub record IsMachineAt (h : Hall) (mac : List ℕ) (m : Machine) : Type 0 where
  pub interface : Interface
  pub recorded : at h.interfaces mac ≡ Some interface
  pub found : at h.machines interface.machine ≡ Some m

-- the step gives these commands to the machine with an address, which asked for its script
abbrev pub GivesText : List ℕ → List Command → Step → Type 0
GivesText mac commands s = WasAnswered s (event.Script mac) (script commands)

abbrev pub IsDeployed : Machine → Type 0
IsDeployed m = m.status ≡ Deployed

-- a script is given to no one but who asked for one
abbrev pub ScriptIsAsked : List Step → Step → Type 0
ScriptIsAsked past s = (commands : List Command) → s.answer ≡ Some (script commands) → (mac : List ℕ) × GivesText mac commands s

-- a Deployed machine that asks for its script is told to boot its own disk, and nothing changes
abbrev pub BootsLocally : List Step → Step → Type 0
BootsLocally past s =
    (mac : List ℕ) (m : Machine) (content : Content) → WasAnswered s (event.Script mac) content → IsMachineAt s.before mac m → IsDeployed m
    → (content ≡ script (local_script m.arch)) × (s.after ≡ s.before)

-- every text that is given is a script, within the limits of scripts
abbrev pub GivesScripts : List Step → Step → Type 0
GivesScripts past s = (mac : List ℕ) (commands : List Command) → GivesText mac commands s → IsScript commands

-- what each step's arrival brings is of its type: none can be made otherwise
abbrev pub AreTyped : List Step → Type 0
AreTyped steps = AllByRecursion IsTypedStep steps

-- an accepted command on the machine, by the operator who was its owner just before
pub record IsByOwner (id : ℕ) (command : MachineCommand) (s : Step) : Type 0 where
  pub operator : List ℕ
  pub key : List ℕ
  pub version : Option ℕ
  pub content : Content
  pub accepted : IsAccepted operator key (OnMachine id version command) content s
  pub machine : Machine
  pub found : at s.before.machines id ≡ Some machine
  pub owner : machine.owner ≡ Some operator

-- a release of the machine with this way of erasing
abbrev pub IsReleaseErasing : ℕ → Erase → Step → Type 0
IsReleaseErasing id kind s = IsByOwner id (on.Release (Some kind)) s

-- the machine is in Disk erasing, its last entry was such a release, and the script names the kind that this release named, and
-- no other
pub record IsRightlyErased (mac : List ℕ) (commands : List Command) (past : List Step) (h : Hall) : Type 0 where
  pub machine : Machine
  pub asks : IsMachineAt h mac machine
  pub status : machine.status ≡ DiskErasing
  pub entry : Last (IsEntry machine.id) past
  pub kind : Erase
  pub release : IsReleaseErasing machine.id kind entry.step
  pub named : ErasesBy kind commands
  pub only : (other : Erase) → ErasesBy other commands → other ≡ kind

-- each script whose text has a kernel erase disks answers a request for a machine that is rightly erased
abbrev pub ErasesRightly : List Step → Step → Type 0
ErasesRightly past s =
    (mac : List ℕ) (commands : List Command) → GivesText mac commands s → IsErasing (spelling commands)
    → IsRightlyErased mac commands past s.before

-- a deploy of the machine with this image, as it was recorded then
pub record IsDeploy (id : ℕ) (name : List ℕ) (image : BootImage) (s : Step) : Type 0 where
  pub by_owner : IsByOwner id (on.Deploy name) s
  pub recorded : at s.before.images name ≡ Some image

-- the machine is in Deploying, its last entry was such a deploy, and the script boots the image that this deploy named
pub record IsRightlyDeployed (host mac : List ℕ) (commands : List Command) (past : List Step) (h : Hall) : Type 0 where
  pub machine : Machine
  pub asks : IsMachineAt h mac machine
  pub status : machine.status ≡ Deploying
  pub entry : Last (IsEntry machine.id) past
  pub name : List ℕ
  pub image : BootImage
  pub deploy : IsDeploy machine.id name image entry.step
  pub boot : Boot
  pub boots : commands ≡ work_script host purpose.Deploy machine.erase boot image

-- each script whose text has a kernel write an image to a disk answers a request for a machine that is rightly deployed
abbrev pub DeploysRightly : List Step → Step → Type 0
DeploysRightly past s =
    (mac : List ℕ) (commands : List Command) → GivesText mac commands s → IsDeploying (spelling commands)
    → IsRightlyDeployed s.arrival.site.host mac commands past s.before

-- ---- counting

-- a report counts only if its number and its token are those of its machine's own boot
abbrev pub CountsOwnBoot : List Step → Step → Type 0
CountsOwnBoot past s =
    (number : ℕ) (token : List ℕ) (progress : Progress) → WasAnswered s (event.Report number token progress) counted
    → (b : Boot) × (b.number ≡ number) × (b.token ≡ token) × IsOwnBoot b.machine b past

-- some report of the boot counts
abbrev pub CountsAny : ℕ → Step → Type 0
CountsAny number s = (progress : Progress) × CountsReport number progress s

-- a report counts that the boot is done, or that it failed
abbrev pub CountsVerdict : ℕ → Step → Type 0
CountsVerdict number s = CountsReport number report.Done s ⊎ CountsReport number report.Failed s

-- a report that a boot has started counts only before all others of this boot
abbrev pub CountsStartedFirst : List Step → Step → Type 0
CountsStartedFirst past s = (number : ℕ) → CountsReport number report.Started s → NoneOf (CountsAny number) past

-- at most one verdict on a boot counts
abbrev pub CountsVerdictOnce : List Step → Step → Type 0
CountsVerdictOnce past s = (number : ℕ) → CountsVerdict number s → NoneOf (CountsVerdict number) past

-- ---- numbers

-- a row comes to stand at the number
abbrev pub MakesMachine : ℕ → Step → Type 0
MakesMachine id s = (m : Machine) × (at s.before.machines id ≡ None) × (at s.after.machines id ≡ Some m)

abbrev pub MakesBoot : ℕ → Step → Type 0
MakesBoot number s = (b : Boot) × (at s.before.boots number ≡ None) × (at s.after.boots number ≡ Some b)

abbrev pub MakesOrder : ℕ → Step → Type 0
MakesOrder number s = (o : Order) × (at s.before.orders number ≡ None) × (at s.after.orders number ≡ Some o)

-- no number of a machine, a boot or an order is issued twice, not even once its row is gone
pub record NumbersOnce (past : List Step) (s : Step) : Type 0 where
  pub machines : (id : ℕ) → MakesMachine id s → NoneOf (MakesMachine id) past
  pub boots : (number : ℕ) → MakesBoot number s → NoneOf (MakesBoot number) past
  pub orders : (number : ℕ) → MakesOrder number s → NoneOf (MakesOrder number) past

-- ---- entries

-- there was no such machine, and a client is enlisted, or an operator adds a machine
abbrev pub IsMade : ℕ → Step → Type 0
IsMade id s = (at s.before.machines id ≡ None) × AsksForMachine s.arrival.event

-- Why a machine, which was this one before the step, was given a signal:

-- an accepted command on it
pub record IsCommanded (id : ℕ) (s : Step) (signal : Signal) : Type 0 where
  pub operator : List ℕ
  pub key : List ℕ
  pub version : Option ℕ
  pub command : MachineCommand
  pub action : Action
  pub content : Content
  pub accepted : IsAccepted operator key (OnMachine id version command) content s
  pub acts : action_of command ≡ Some action
  pub signal_is : signal ≡ By action

-- a counted report of a boot of it
pub record IsReported (id : ℕ) (s : Step) (signal : Signal) : Type 0 where
  pub boot : Boot
  pub progress : Progress
  pub counts : CountsReport boot.number progress s
  pub recorded : at s.before.boots boot.number ≡ Some boot
  pub its : boot.machine ≡ id
  pub signal_is : signal ≡ Report progress

-- a counted answer to an order of it
pub record IsOrdered (id : ℕ) (s : Step) (signal : Signal) : Type 0 where
  pub order : Order
  pub outcome : Outcome
  pub counts : CountsAnswer order.number outcome s
  pub recorded : at s.before.orders order.number ≡ Some order
  pub its : order.machine ≡ id
  pub signal_is : signal ≡ Answer outcome

-- its deadline, at a quiet moment
pub record HasExpired (machine : Machine) (s : Step) (signal : Signal) : Type 0 where
  pub quiet : s.arrival.event ≡ event.Quiet
  pub due : is_due machine.deadline s.arrival.moment ≡ true
  pub signal_is : signal ≡ Expired

-- a fourth boot, for which it asked while none was offered, and for which it is held
pub record AsksFourth (machine : Machine) (s : Step) (signal : Signal) : Type 0 where
  pub mac : List ℕ
  pub asks : IsMachineAt s.before mac machine
  pub not_offered : offered_boot (row_at s.before.boots machine.boot) ≡ None
  pub held : GivesText mac hold_script s
  pub fourth : is_fourth machine ≡ true
  pub signal_is : signal ≡ FourthBoot

pub data IsSignalled (id : ℕ) (machine : Machine) (s : Step) (signal : Signal) : Type 0 where
  by_command : IsCommanded id s signal → IsSignalled id machine s signal
  by_report : IsReported id s signal → IsSignalled id machine s signal
  by_answer : IsOrdered id s signal → IsSignalled id machine s signal
  by_deadline : HasExpired machine s signal → IsSignalled id machine s signal
  by_fourth_boot : AsksFourth machine s signal → IsSignalled id machine s signal

-- the machine goes where a row of the table leads
pub record TakesRow (id : ℕ) (s : Step) : Type 0 where
  pub machine : Machine
  pub after : Machine
  pub signal : Signal
  pub to : TableStep
  pub before_is : at s.before.machines id ≡ Some machine
  pub after_is : at s.after.machines id ≡ Some after
  pub row : step_of machine signal ≡ Some to
  pub status : after.status ≡ to.status
  pub signalled : IsSignalled id machine s signal

-- each entry of a machine is its making, or a row of the table
abbrev pub EntersByTable : List Step → Step → Type 0
EntersByTable past s = (id : ℕ) → IsEntry id s → IsMade id s ⊎ TakesRow id s

-- ---- request keys

-- some command of this operator with this key is accepted
abbrev pub AcceptsKey : List ℕ → List ℕ → Step → Type 0
AcceptsKey operator key s = (command : HallCommand) × (content : Content) × IsAccepted operator key command content s

-- at most one command of an operator with a key is accepted
abbrev pub AcceptsOnce : List Step → Step → Type 0
AcceptsOnce past s = (operator key : List ℕ) → AcceptsKey operator key s → NoneOf (AcceptsKey operator key) past

-- the reply is a response with this status
abbrev pub HasStatus : ℕ → Reply → Type 0
HasStatus wanted (Http status kind body) = status ≡ wanted
HasStatus wanted other = ⊥

-- an accepted command is answered by the status 200, as this schema answers
abbrev pub AcceptsWithOkIn : Schema → List Step → Step → Type 0
AcceptsWithOkIn schema past s = (operator key : List ℕ) (command : HallCommand) (content : Content) → IsAccepted operator key command content s → HasStatus 200 (reply_of schema content)

-- so the second schema does
abbrev pub AcceptsWithOk : List Step → Step → Type 0
AcceptsWithOk = AcceptsWithOkIn second

-- what a later request of the operator with the key is answered, where the first command was answered so: the first
-- answer, octet for octet, to the same command, KeyReused to another, UnknownToken once the operator is disabled
pub data IsAnsweredAgain (schema : Schema) (o : Operator) (first : HallCommand) (content : Content) (command : HallCommand) (again : Content) : Type 0 where
  disabled : o.enabled ≡ false → again ≡ refused UnknownToken → IsAnsweredAgain schema o first content command again
  first_again : o.enabled ≡ true → command_text command ≡ command_text first → reply_of schema again ≡ reply_of schema content → IsAnsweredAgain schema o first content command again
  reused : o.enabled ≡ true → command_text command ≢ command_text first → again ≡ refused KeyReused → IsAnsweredAgain schema o first content command again

-- the first request of an operator with a key: its command was accepted
pub record FirstRequest (operator key : List ℕ) (past : List Step) : Type 0 where
  pub command : HallCommand
  pub content : Content
  pub accepted : SomeOf (IsAccepted operator key command content) past

-- a request of that operator with that key
pub record KeyedRequest (operator key : List ℕ) (s : Step) : Type 0 where
  pub bearer : Option (List ℕ)
  pub by : Operator
  pub command : HallCommand
  pub content : Content
  pub known : sender s.before bearer ≡ Some by
  pub named : by.name ≡ operator
  pub answered : WasAnswered s (event.Command bearer key command) content

-- a later request is answered so, and changes nothing
abbrev pub RepeatsFirstIn : Schema → List Step → Step → Type 0
RepeatsFirstIn schema past s =
    (operator key : List ℕ) (first : FirstRequest operator key past) (later : KeyedRequest operator key s)
    → IsAnsweredAgain schema later.by first.command first.content later.command later.content × (s.after ≡ s.before)

-- so the second schema does
abbrev pub RepeatsFirst : List Step → Step → Type 0
RepeatsFirst = RepeatsFirstIn second

-- what is answered by the status 200 was accepted, by this step or one before, and is answered as it was then
pub record WasAccepted (schema : Schema) (operator key : List ℕ) (past : List Step) (s : Step) (its : KeyedRequest operator key s) : Type 0 where
  pub first : FirstRequest operator key (past ++ s ∷ [])
  pub command : command_text its.command ≡ command_text first.command
  pub answer : reply_of schema its.content ≡ reply_of schema first.content

-- each request that is answered so was accepted
abbrev pub AnswersAcceptedIn : Schema → List Step → Step → Type 0
AnswersAcceptedIn schema past s =
    (operator key : List ℕ) (its : KeyedRequest operator key s) → HasStatus 200 (reply_of schema its.content) → WasAccepted schema operator key past s its

-- so the second schema does
abbrev pub AnswersAccepted : List Step → Step → Type 0
AnswersAccepted = AnswersAcceptedIn second

-- ---- orders

abbrev pub IsWaiting : Order → Type 0
IsWaiting o = o.stage ≡ Waiting

-- of the orders of a machine one waits at most, and none while it is Deployed
pub record WaitsForOne (h : Hall) : Type 0 where
  pub one : (a b : ℕ) (o p : Order) → at h.orders a ≡ Some o → at h.orders b ≡ Some p → IsWaiting o → IsWaiting p → o.machine ≡ p.machine → a ≡ b
  pub deployed : (id : ℕ) (m : Machine) → at h.machines id ≡ Some m → IsDeployed m → (n : ℕ) (o : Order) → at h.orders n ≡ Some o → o.machine ≡ id → ¬ (IsWaiting o)

-- so it is in the hall before each step
abbrev pub AlwaysWaitsForOne : List Step → Step → Type 0
AlwaysWaitsForOne past s = WaitsForOne s.before

-- a new order waits, and its machine goes where a row of the table leads, which has an order of this kind
pub record IsQueuedAtEntry (o : Order) (s : Step) : Type 0 where
  pub waits : IsWaiting o
  pub entry : IsEntry o.machine s
  pub takes : TakesRow o.machine s
  pub kind : takes.to.order ≡ Some o.kind

-- each order is queued at an entry of its machine
abbrev pub QueuesAtEntries : List Step → Step → Type 0
QueuesAtEntries past s = (n : ℕ) (o : Order) → at s.before.orders n ≡ None → at s.after.orders n ≡ Some o → IsQueuedAtEntry o s

-- an order that doesn't wait never waits again
abbrev pub WaitsNoMore : List Step → Step → Type 0
WaitsNoMore past s = (n : ℕ) (k o : Order) → at s.before.orders n ≡ Some k → ¬ (IsWaiting k) → at s.after.orders n ≡ Some o → ¬ (IsWaiting o)

-- some answer to the order counts
abbrev pub CountsSome : ℕ → Step → Type 0
CountsSome n s = (outcome : Outcome) × CountsAnswer n outcome s

-- the order, which waited, is withdrawn
abbrev pub Withdraws : ℕ → Step → Type 0
Withdraws n s = (o k : Order) × (at s.before.orders n ≡ Some o) × IsWaiting o × (at s.after.orders n ≡ Some k) × (k.stage ≡ Withdrawn)

-- an answer counts at most once for each order, and never after the order was withdrawn
abbrev pub CountsAnswerOnce : List Step → Step → Type 0
CountsAnswerOnce past s = (n : ℕ) → CountsSome n s → NoneOf (CountsSome n) past × NoneOf (Withdraws n) past

-- ---- machines

-- the machine is deleted by an accepted command
pub record IsDeleted (id : ℕ) (s : Step) : Type 0 where
  pub operator : List ℕ
  pub key : List ℕ
  pub version : Option ℕ
  pub content : Content
  pub accepted : IsAccepted operator key (OnMachine id version on.Delete) content s

-- a machine stays, unless it is deleted
abbrev pub KeepsMachines : List Step → Step → Type 0
KeepsMachines past s = (id : ℕ) (m : Machine) → at s.before.machines id ≡ Some m → ((k : Machine) × (at s.after.machines id ≡ Some k)) ⊎ IsDeleted id s

-- ---- versions

-- the machine has the same interfaces in both halls
abbrev pub SameInterfaces : ℕ → Hall → Hall → Type 0
SameInterfaces id before after =
    (mac : List ℕ) (i : Interface) → i.machine ≡ id → (at before.interfaces mac ≡ Some i) ↔ (at after.interfaces mac ≡ Some i)

-- but for its version the row is the same
abbrev pub SameButVersion : Machine → Machine → Type 0
SameButVersion m k = record k { version = m.version } ≡ m

-- what becomes of the version of a machine whose row was m and is k
pub data IsVersioned (id : ℕ) (before after : Hall) (m k : Machine) : Type 0 where
  -- its row and its set of interfaces stay
  stays : k ≡ m → SameInterfaces id before after → IsVersioned id before after m k
  -- another column of its row, or its set of interfaces, changes: the version is the next one, and the last one stays
  rises : k.version ≡ next_version m.version → (SameButVersion m k → SameInterfaces id before after → ⊥) → IsVersioned id before after m k

-- the version of each machine that stays rises exactly where another column of its row, or its set of interfaces, changes
abbrev pub RaisesVersions : List Step → Step → Type 0
RaisesVersions past s =
    (id : ℕ) (m k : Machine) → at s.before.machines id ≡ Some m → at s.after.machines id ≡ Some k → IsVersioned id s.before s.after m k

-- ---- refusals

-- the event is a client's frame
abbrev pub IsFrame : Event → Type 0
IsFrame e = (port : Port) × (client : Client) × (e ≡ event.Frame port client)

-- what is refused changes nothing, nor does a client's frame that isn't answered
abbrev pub RefusesWithoutChange : List Step → Step → Type 0
RefusesWithoutChange past s =
    (content : Content) → s.answer ≡ Some content → IsRefusal content ⊎ (IsFrame s.arrival.event × (content ≡ nothing)) → s.after ≡ s.before

-- ---- all runs

-- in each run from a sound hall of the second schema
abbrev pub Always : (List Step → Step → Type 0) → Type 0
Always P = (h end : Hall) (steps : List Step) → IsSound h → h.schema ≡ second → IsRun h steps end → AtEachStep P steps

-- in each run from a new hall of the second schema, where what arrives is of its type
abbrev pub AlwaysFromNew : (List Step → Step → Type 0) → Type 0
AlwaysFromNew P =
    (admin digest : List ℕ) (end : Hall) (steps : List Step) → AreTyped steps → IsRun (new_hall second admin digest) steps end → AtEachStep P steps
