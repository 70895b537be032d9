-- What holds of each step of a hall of the first schema.
use Rattle.std.specs.Prelude.{List}
use Rattle.hall_laws.specs.{Prelude.{first}, Step.Step, Laws.{AcceptsOnce, AcceptsWithOkIn, AlwaysWaitsForOne, AnswersAcceptedIn, AreTyped, BootsLocally, CountsAnswerOnce, CountsOwnBoot, CountsStartedFirst, CountsVerdictOnce, DeploysRightly, EntersByTable, GivesScripts, KeepsMachines, NumbersOnce, QueuesAtEntries, RaisesVersions, RefusesWithoutChange, RepeatsFirstIn, ScriptIsAsked, WaitsNoMore}, Past.AtEachStep, FirstErasing.ErasesFully}

-- Each law of the past, of each of these steps, with what the first schema answers. Three laws ask that what arrives is of its type.
pub record KeepsFirstLaws (steps : List Step) : Type 0 where
  pub local_boots : AtEachStep BootsLocally steps
  -- erasing and deploying
  pub scripts_are_asked : AtEachStep ScriptIsAsked steps
  pub texts_are_scripts : AreTyped steps → AtEachStep GivesScripts steps
  pub erasing_is_released : AreTyped steps → AtEachStep ErasesFully steps
  pub deploying_is_commanded : AreTyped steps → AtEachStep DeploysRightly steps
  -- counting
  pub own_boots : AtEachStep CountsOwnBoot steps
  pub started_first : AtEachStep CountsStartedFirst steps
  pub verdict_once : AtEachStep CountsVerdictOnce steps
  pub numbers_once : AtEachStep NumbersOnce steps
  pub entries_by_table : AtEachStep EntersByTable steps
  pub machines_stay : AtEachStep KeepsMachines steps
  pub versions_rise_by_changes : AtEachStep RaisesVersions steps
  -- keys
  pub accepted_once : AtEachStep AcceptsOnce steps
  pub accepted_with_ok : AtEachStep (AcceptsWithOkIn first) steps
  pub repeats_first : AtEachStep (RepeatsFirstIn first) steps
  pub answers_accepted : AtEachStep (AnswersAcceptedIn first) steps
  -- orders
  pub always_waits_for_one : AtEachStep AlwaysWaitsForOne steps
  pub queues_at_entries : AtEachStep QueuesAtEntries steps
  pub waits_no_more : AtEachStep WaitsNoMore steps
  pub answers_once : AtEachStep CountsAnswerOnce steps
  -- refusals
  pub refusals : AtEachStep RefusesWithoutChange steps
