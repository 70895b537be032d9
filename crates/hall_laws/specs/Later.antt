-- What holds of each step of a hall of the second schema, also where it was carried over from the first.
use Rattle.std.specs.Prelude.{List, ◌++◌}
use Rattle.hall_laws.specs.{Prelude.{Hall, IsSound}, Step.Step, FirstLaws.KeepsFirstLaws, Laws.{AcceptsOnce, AcceptsWithOk, AlwaysWaitsForOne, AnswersAccepted, AreTyped, BootsLocally, CountsAnswerOnce, CountsOwnBoot, CountsStartedFirst, CountsVerdictOnce, DeploysRightly, EntersByTable, ErasesRightly, GivesScripts, KeepsMachines, NumbersOnce, QueuesAtEntries, RaisesVersions, RefusesWithoutChange, RepeatsFirst, ScriptIsAsked, WaitsForOne, WaitsNoMore}, Past.AtEachStep}

-- a law of a step whose past is these steps of the first schema and then some of the second
abbrev pub After : List Step → (List Step → Step → Type 0) → List Step → Step → Type 0
After steps P past s = P (steps ++ past) s

-- Each law of the past, of each of the steps that came after those of the first schema, and led to this sound hall. A hall that was new
-- with the second schema has none before. Three laws ask that what the steps of the first schema brought is of its type.
pub record KeepsLaws (steps more : List Step) (end : Hall) : Type 0 where
  pub sound : IsSound end
  -- each law, of the steps of the first schema
  pub before : KeepsFirstLaws steps
  pub local_boots : AtEachStep (After steps BootsLocally) more
  -- erasing and deploying
  pub scripts_are_asked : AtEachStep (After steps ScriptIsAsked) more
  pub texts_are_scripts : AreTyped steps → AtEachStep (After steps GivesScripts) more
  pub erasing_is_released : AreTyped steps → AtEachStep (After steps ErasesRightly) more
  pub deploying_is_commanded : AreTyped steps → AtEachStep (After steps DeploysRightly) more
  -- counting
  pub own_boots : AtEachStep (After steps CountsOwnBoot) more
  pub started_first : AtEachStep (After steps CountsStartedFirst) more
  pub verdict_once : AtEachStep (After steps CountsVerdictOnce) more
  pub numbers_once : AtEachStep (After steps NumbersOnce) more
  pub entries_by_table : AtEachStep (After steps EntersByTable) more
  pub machines_stay : AtEachStep (After steps KeepsMachines) more
  pub versions_rise_by_changes : AtEachStep (After steps RaisesVersions) more
  -- keys
  pub accepted_once : AtEachStep (After steps AcceptsOnce) more
  pub accepted_with_ok : AtEachStep (After steps AcceptsWithOk) more
  pub repeats_first : AtEachStep (After steps RepeatsFirst) more
  pub answers_accepted : AtEachStep (After steps AnswersAccepted) more
  -- orders
  pub always_waits_for_one : AtEachStep (After steps AlwaysWaitsForOne) more
  pub waits_for_one : WaitsForOne end
  pub queues_at_entries : AtEachStep (After steps QueuesAtEntries) more
  pub waits_no_more : AtEachStep (After steps WaitsNoMore) more
  pub answers_once : AtEachStep (After steps CountsAnswerOnce) more
  -- refusals
  pub refusals : AtEachStep (After steps RefusesWithoutChange) more
