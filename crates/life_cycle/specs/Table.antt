-- The life cycle of machines as a table (after the node statuses and actions of MAAS): which signal leads from
-- which statuses where, who may give it, and which order goes to the power operator with it.
use Rattle.std.specs.{Prelude.{ℕ, ◌+◌, Bool, true, not, ◌==◌, ◌&&◌, List, [], ◌∷◌, map, Option, Some, None, if◌then◌else◌}, List.{flat_map, list_any}}
use Rattle.hall_types.specs.{Act.act_place, Status.status_number, declared.{status.Status.{Status, TheVariants.{New, Commissioning, FailedCommissioning, Testing, FailedTesting, Ready, Allocated, Deploying, FailedDeployment, Deployed, Releasing, FailedReleasing, DiskErasing, FailedDiskErasing, EnteringRescue, FailedToEnterRescue, Rescue, ExitingRescue, FailedToExitRescue, Broken}}, kinds.OrderKind.{OrderKind, TheVariants.{Cycle, Off}}, machine.Machine.Machine}}
use Rattle.hall_types.specs.declared.kinds.Progress.TheVariants as progress
use Rattle.hall_types.specs.declared.kinds.Outcome.TheVariants as outcome
use Rattle.life_cycle.specs.declared.{action.{Action.Action, Who.{Who, TheVariants.{Admin, MemberOrAdmin, Owner, OwnerOrAdmin, Nobody}}}, signal.Signal.{Signal, TheVariants.{By, Report, Answer, Expired, FourthBoot}}, step.Step.Step}
use Rattle.life_cycle.specs.declared.action.Action.TheVariants as act
use Rattle.hall_types.specs.declared.act.Act.TheVariants as does

-- where a row leads: to a status, or back to the status that the rescue began from
pub data Target : Type 0 where
  to : Status → Target
  back : Target

-- when a row holds: always, or only if tests were asked for, or only if they were not
pub data Condition : Type 0 where
  always : Condition
  tests_asked : Condition
  no_tests : Condition

-- a row: its signals, where each status leads, when it holds, who may give its signals, and the order it queues
pub record Row : Type 0 where
  pub signals : List Signal
  pub leads : List (Status × Target)
  pub condition : Condition
  pub who : Who
  pub order : Option OrderKind

abbrev pub row : List Signal → List (Status × Target) → Condition → Who → Option OrderKind → Row
row signals leads condition who order =
    record { signals = signals; leads = leads; condition = condition; who = who; order = order }

-- each of these statuses leads to the target
abbrev pub each : List Status → Target → List (Status × Target)
each froms target = map (λ from. (from, target)) froms

-- whether a status is one of these
abbrev pub is_among : List Status → Status → Bool
is_among statuses status = list_any (λ one. status_number one == status_number status) statuses

-- from these a machine can be commissioned
abbrev pub commissionable : List Status
commissionable = New ∷ Ready ∷ FailedCommissioning ∷ FailedTesting ∷ Broken ∷ []

-- from these a machine can be released
abbrev pub releasable : List Status
releasable = Allocated ∷ Deployed ∷ FailedDeployment ∷ FailedReleasing ∷ FailedDiskErasing ∷ []

-- from these a machine can be marked broken
abbrev pub breakable : List Status
breakable = Ready ∷ Allocated ∷ FailedTesting ∷ FailedDeployment ∷ FailedReleasing ∷ FailedDiskErasing ∷ []

-- the table
abbrev pub table : List Row
table =
    row (By act.Commission ∷ []) (each commissionable (to Commissioning)) always Admin (Some Cycle)
    ∷ row (By (act.Act does.Test) ∷ []) (each (Ready ∷ FailedTesting ∷ []) (to Testing)) always Admin (Some Cycle)
    ∷ row (By (act.Act does.Override) ∷ []) ((FailedTesting, to Ready) ∷ []) always Admin None
    ∷ row (By (act.Act does.Allocate) ∷ []) ((Ready, to Allocated) ∷ []) always MemberOrAdmin None
    ∷ row (By act.Deploy ∷ []) (each (Allocated ∷ FailedDeployment ∷ []) (to Deploying)) always Owner (Some Cycle)
    ∷ row (By act.Release ∷ []) (each releasable (to Releasing)) always OwnerOrAdmin (Some Off)
    ∷ row (By act.ReleaseErasing ∷ []) (each releasable (to DiskErasing)) always Owner (Some Cycle)
    ∷ row (By (act.Act does.Abort) ∷ [])
    ((Commissioning, to New) ∷ (Testing, to FailedTesting) ∷ (Deploying, to Allocated) ∷ (DiskErasing, to FailedDiskErasing) ∷ [])
    always OwnerOrAdmin (Some Off)
    ∷ row (By (act.Act does.Rescue) ∷ []) (each (Deployed ∷ Broken ∷ FailedToEnterRescue ∷ []) (to EnteringRescue)) always OwnerOrAdmin (Some Cycle)
    ∷ row (By (act.Act does.ExitRescue) ∷ []) (each (Rescue ∷ FailedToEnterRescue ∷ FailedToExitRescue ∷ []) (to ExitingRescue)) always OwnerOrAdmin (Some Cycle)
    ∷ row (By (act.Act does.Break) ∷ []) (each breakable (to Broken)) always OwnerOrAdmin None
    ∷ row (By (act.Act does.Fix) ∷ []) ((Broken, to Ready) ∷ []) always Admin None
    ∷ row (Report progress.Started ∷ []) ((EnteringRescue, to Rescue) ∷ []) always Nobody None
    ∷ row (Report progress.Done ∷ []) ((Commissioning, to Testing) ∷ []) tests_asked Nobody (Some Cycle)
    ∷ row (Report progress.Done ∷ []) ((Commissioning, to Ready) ∷ []) no_tests Nobody None
    ∷ row (Report progress.Done ∷ []) ((Testing, to Ready) ∷ (Deploying, to Deployed) ∷ []) always Nobody None
    ∷ row (Report progress.Done ∷ []) ((DiskErasing, to Releasing) ∷ []) always Nobody (Some Off)
    ∷ row (Answer outcome.Done ∷ []) ((Releasing, to Ready) ∷ (ExitingRescue, back) ∷ []) always Nobody None
    ∷ row (Report progress.Failed ∷ Answer outcome.Failed ∷ Expired ∷ FourthBoot ∷ [])
    ((Commissioning, to FailedCommissioning) ∷ (Testing, to FailedTesting) ∷ (Deploying, to FailedDeployment) ∷ (DiskErasing, to FailedDiskErasing) ∷ (EnteringRescue, to FailedToEnterRescue) ∷ [])
    always Nobody None
    ∷ row (Answer outcome.Failed ∷ Expired ∷ []) ((Releasing, to FailedReleasing) ∷ (ExitingRescue, to FailedToExitRescue) ∷ []) always Nobody None
    ∷ []

-- ---- what the table says

-- each signal has a number of its own
abbrev pub action_number : Action → ℕ
action_number act.Commission = 0
action_number act.Deploy = 1
action_number act.Release = 2
action_number act.ReleaseErasing = 3
action_number (act.Act a) = 11 + act_place a

abbrev pub signal_number : Signal → ℕ
signal_number (By action) = action_number action
signal_number (Report progress.Started) = 4
signal_number (Report progress.Done) = 5
signal_number (Report progress.Failed) = 6
signal_number (Answer outcome.Done) = 7
signal_number (Answer outcome.Failed) = 8
signal_number Expired = 9
signal_number FourthBoot = 10

-- one line of a row: one signal, one status, and where it leads
pub record Transition : Type 0 where
  pub signal : Signal
  pub from : Status
  pub target : Target
  pub condition : Condition
  pub who : Who
  pub order : Option OrderKind

abbrev pub transitions_of : Row → List Transition
transitions_of r =
    flat_map (λ signal. map (λ lead. record { signal = signal; from = lead.0; target = lead.1; condition = r.condition; who = r.who; order = r.order }) r.leads) r.signals

-- all lines of all rows
abbrev pub transitions : List Transition
transitions = flat_map transitions_of table

-- whether a row holds, given whether tests were asked for
abbrev pub holds : Condition → Bool → Bool
holds always tests = true
holds tests_asked tests = tests
holds no_tests tests = not tests

-- whether a line is for this status and signal, and its row holds, given whether tests were asked for
abbrev pub leads : Status → Bool → Signal → Transition → Bool
leads status tests signal t =
    (signal_number t.signal == signal_number signal) && (status_number t.from == status_number status) && holds t.condition tests

abbrev pub status_at : Target → Option Status → Option Status
status_at (to status) remembered = Some status
status_at back remembered = remembered

abbrev pub step_to : Option Status → Option OrderKind → Option Step
step_to None order = None
step_to (Some status) order = Some (record { status = status; order = order })

abbrev pub step_in : List Transition → Machine → Signal → Option Step
step_in [] m signal = None
step_in (t ∷ ts) m signal =
    if leads m.status m.tests signal t then step_to (status_at t.target m.back) t.order else step_in ts m signal

-- the step that a signal leads a machine to, nothing where the table has no row for it
unfoldable pub step_of : Machine → Signal → Option Step
step_of m signal = step_in transitions m signal

-- who may give a signal: what the table's first row with it says
abbrev pub who_in : List Transition → Signal → Who
who_in [] signal = Nobody
who_in (t ∷ ts) signal = if signal_number t.signal == signal_number signal then t.who else who_in ts signal

unfoldable pub who_gives : Signal → Who
who_gives signal = who_in transitions signal
