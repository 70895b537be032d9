use Rattle.std.proofs.Common.{ℕ, List, refl}
use Rattle.hall_laws.{specs.{Prelude.{Hall, first, new_hall, second}, Step.{IsTypedStep, Step}, Laws.{AcceptsOnce, AcceptsWithOk, AcceptsWithOkIn, AlwaysWaitsForOne, AnswersAccepted, AnswersAcceptedIn, AreTyped, BootsLocally, CountsAnswerOnce, CountsOwnBoot, CountsStartedFirst, CountsVerdictOnce, EntersByTable, GivesScripts, KeepsMachines, NumbersOnce, QueuesAtEntries, RaisesVersions, RefusesWithoutChange, RepeatsFirst, RepeatsFirstIn, ScriptIsAsked, WaitsNoMore}, FirstLaws.KeepsFirstLaws, FirstSchema.IsFirstRun}, proofs.{FirstLaws.{HadWholeRows, accepts_once, accepts_with_ok, answers_accepted, answers_once, at_first, boots_locally, counts_own_boot, deploys, enters_by_table, gives_scripts, keeps_machines, numbers_once, queues_at_entries, raises_versions, refuses, repeats_first, script_is_asked, started_first, verdict_once, waits_for_one, waits_forgotten, waits_no_more}, FirstRuns.{IsWhole, new_spares, typed_whole, whole_of}, Forgetting.new_forgotten, Frame.from_new_given, Scripts.{KnowsRows, knows_step, new_rows}, Twins.twins_plain}}
use Rattle.hall_laws.proofs.migration.first_laws_hold.Goals as goal

-- the run of the second schema of which a run of the first is what that schema has
whole : goal.After-refusals_leave_the_hall → (admin digest : List ℕ) (h : Hall) (steps : List Step)
    → IsFirstRun (new_hall first admin digest) steps h → IsWhole (new_hall second admin digest) steps h
whole c admin digest h steps run =
    whole_of c.steps_keep_halls_sound.ensures.step steps (new_hall second admin digest) (new_hall first admin digest) h
    (new_spares admin digest (c.new_halls_are_sound.ensures second admin digest)) (new_forgotten admin digest) run

laws_of : goal.After-refusals_leave_the_hall → (admin digest : List ℕ) (h : Hall) (steps : List Step) → IsFirstRun (new_hall first admin digest) steps h → KeepsFirstLaws steps
laws_of c admin digest h steps run =
    let new = new_hall second admin digest in
    let w = whole c admin digest h steps run in
    let all = w.whole in
    let twins = w.twins in
    let sound = c.new_halls_are_sound.ensures second admin digest in
    let its : AreTyped steps → AreTyped all = typed_whole all steps (twins_plain all steps twins) in
    record {
      local_boots = at_first BootsLocally BootsLocally boots_locally all steps twins (c.local_boots.ensures new w.last all sound refl w.run);
      scripts_are_asked = at_first ScriptIsAsked ScriptIsAsked script_is_asked all steps twins (c.scripts_are_asked.ensures new w.last all sound refl w.run);
      texts_are_scripts = λ typed. at_first GivesScripts GivesScripts gives_scripts all steps twins (c.texts_are_scripts.ensures admin digest w.last all (its typed) w.run);
      erasing_is_released = λ typed. c.first_erasing_is_released.ensures admin digest h steps typed run;
      deploying_is_commanded = λ typed.
          deploys all steps twins (c.texts_are_scripts.ensures admin digest w.last all (its typed) w.run)
          (from_new_given c.steps_keep_halls_sound.ensures.step IsTypedStep KnowsRows knows_step (c.new_halls_are_sound.ensures second) new_rows
          HadWholeRows (λ past s brings step sound old. old) admin digest w.last all (its typed) w.run)
          (c.deploying_is_commanded.ensures admin digest w.last all (its typed) w.run);
      own_boots = at_first CountsOwnBoot CountsOwnBoot counts_own_boot all steps twins (c.own_boots.ensures admin digest w.last all w.run);
      started_first = at_first CountsStartedFirst CountsStartedFirst started_first all steps twins (c.reports_count_once.ensures.started new w.last all sound refl w.run);
      verdict_once = at_first CountsVerdictOnce CountsVerdictOnce verdict_once all steps twins (c.reports_count_once.ensures.verdict new w.last all sound refl w.run);
      numbers_once = at_first NumbersOnce NumbersOnce numbers_once all steps twins (c.numbers_once.ensures new w.last all sound refl w.run);
      entries_by_table = at_first EntersByTable EntersByTable enters_by_table all steps twins (c.entries_by_table.ensures new w.last all sound refl w.run);
      machines_stay = at_first KeepsMachines KeepsMachines keeps_machines all steps twins (c.machines_stay.ensures new w.last all sound refl w.run);
      versions_rise_by_changes = at_first RaisesVersions RaisesVersions raises_versions all steps twins (c.versions_rise_by_changes.ensures new w.last all sound refl w.run);
      accepted_once = at_first AcceptsOnce AcceptsOnce accepts_once all steps twins (c.request_keys.ensures.once new w.last all sound refl w.run);
      accepted_with_ok = at_first AcceptsWithOk (AcceptsWithOkIn first) accepts_with_ok all steps twins (c.request_keys.ensures.ok new w.last all sound refl w.run);
      repeats_first = at_first RepeatsFirst (RepeatsFirstIn first) repeats_first all steps twins (c.request_keys.ensures.again new w.last all sound refl w.run);
      answers_accepted = at_first AnswersAccepted (AnswersAcceptedIn first) answers_accepted all steps twins (c.request_keys.ensures.accepted admin digest w.last all w.run);
      always_waits_for_one = at_first AlwaysWaitsForOne AlwaysWaitsForOne waits_for_one all steps twins (c.orders_and_answers.ensures.always new w.last all sound refl w.run);
      queues_at_entries = at_first QueuesAtEntries QueuesAtEntries queues_at_entries all steps twins (c.orders_and_answers.ensures.queued new w.last all sound refl w.run);
      waits_no_more = at_first WaitsNoMore WaitsNoMore waits_no_more all steps twins (c.orders_and_answers.ensures.again new w.last all sound refl w.run);
      answers_once = at_first CountsAnswerOnce CountsAnswerOnce answers_once all steps twins (c.orders_and_answers.ensures.answered new w.last all sound refl w.run);
      refusals = at_first RefusesWithoutChange RefusesWithoutChange refuses all steps twins (c.refusals_leave_the_hall.ensures new w.last all w.run);
    }

pub returns : goal.returns
returns c = record {
  laws = laws_of c;
  waits_for_one = λ admin digest h steps run.
      let w = whole c admin digest h steps run in
      waits_forgotten w.last h w.forgotten
      (c.orders_and_answers.ensures.waits (new_hall second admin digest) w.last w.whole (c.new_halls_are_sound.ensures second admin digest) refl w.run);
}
