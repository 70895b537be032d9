use Rattle.std.proofs.Common.{◌++◌, ℕ, List, [], refl, subst}
use Rattle.hall_laws.{specs.{Prelude.{Hall, first, new_hall, second}, Step.{IsRun, Step}, Laws.{AcceptsOnce, AcceptsWithOk, AlwaysWaitsForOne, AnswersAccepted, AreTyped, BootsLocally, CountsAnswerOnce, CountsOwnBoot, CountsStartedFirst, CountsVerdictOnce, DeploysRightly, EntersByTable, ErasesRightly, GivesScripts, KeepsMachines, NumbersOnce, QueuesAtEntries, RaisesVersions, RefusesWithoutChange, RepeatsFirst, ScriptIsAsked, WaitsNoMore}, FirstLaws.KeepsFirstLaws, Later.KeepsLaws, Origin.{carried_over, created}}, proofs.{FirstLaws.no_steps, FirstRuns.{new_spares, next_is, run_append, typed_append, typed_whole, whole_of}, Forgetting.new_forgotten, Later.{accepts_once, answers_accepted, answers_once, at_later, counts_own_boot, deploys, erases, numbers_once, repeats_first, started_first, verdict_once}, Twins.{AreTwins, twins_plain}}}
use Rattle.hall_laws.proofs.migration.laws_hold_from_origins.Goals as goal

-- a run of the second schema of which the first steps are like those of the first schema
laws_since : goal.After-refusals_leave_the_hall → (admin digest : List ℕ) (whole steps more : List Step) (end : Hall) → KeepsFirstLaws steps → AreTwins whole steps
    → IsRun (new_hall second admin digest) (whole ++ more) end → AreTyped more → KeepsLaws steps more end
laws_since c admin digest whole steps more end before twins runs also =
    let new = new_hall second admin digest in
    let all = whole ++ more in
    let sound = c.new_halls_are_sound.ensures second admin digest in
    let its : AreTyped steps → AreTyped all = λ typed. typed_append whole more (typed_whole whole steps (twins_plain whole steps twins) typed) also in
    record {
      sound = (c.steps_keep_halls_sound.ensures.from_new admin digest end all runs).0;
      before = before;
      local_boots = at_later BootsLocally (λ whole past like s law. law) whole steps more twins (c.local_boots.ensures new end all sound refl runs);
      scripts_are_asked = at_later ScriptIsAsked (λ whole past like s law. law) whole steps more twins (c.scripts_are_asked.ensures new end all sound refl runs);
      texts_are_scripts = λ typed. at_later GivesScripts (λ whole past like s law. law) whole steps more twins (c.texts_are_scripts.ensures admin digest end all (its typed) runs);
      erasing_is_released = λ typed. at_later ErasesRightly erases whole steps more twins (c.erasing_is_released.ensures admin digest end all (its typed) runs);
      deploying_is_commanded = λ typed. at_later DeploysRightly deploys whole steps more twins (c.deploying_is_commanded.ensures admin digest end all (its typed) runs);
      own_boots = at_later CountsOwnBoot counts_own_boot whole steps more twins (c.own_boots.ensures admin digest end all runs);
      started_first = at_later CountsStartedFirst started_first whole steps more twins (c.reports_count_once.ensures.started new end all sound refl runs);
      verdict_once = at_later CountsVerdictOnce verdict_once whole steps more twins (c.reports_count_once.ensures.verdict new end all sound refl runs);
      numbers_once = at_later NumbersOnce numbers_once whole steps more twins (c.numbers_once.ensures new end all sound refl runs);
      entries_by_table = at_later EntersByTable (λ whole past like s law. law) whole steps more twins (c.entries_by_table.ensures new end all sound refl runs);
      machines_stay = at_later KeepsMachines (λ whole past like s law. law) whole steps more twins (c.machines_stay.ensures new end all sound refl runs);
      versions_rise_by_changes = at_later RaisesVersions (λ whole past like s law. law) whole steps more twins (c.versions_rise_by_changes.ensures new end all sound refl runs);
      accepted_once = at_later AcceptsOnce accepts_once whole steps more twins (c.request_keys.ensures.once new end all sound refl runs);
      accepted_with_ok = at_later AcceptsWithOk (λ whole past like s law. law) whole steps more twins (c.request_keys.ensures.ok new end all sound refl runs);
      repeats_first = at_later RepeatsFirst repeats_first whole steps more twins (c.request_keys.ensures.again new end all sound refl runs);
      answers_accepted = at_later AnswersAccepted answers_accepted whole steps more twins (c.request_keys.ensures.accepted admin digest end all runs);
      always_waits_for_one = at_later AlwaysWaitsForOne (λ whole past like s law. law) whole steps more twins (c.orders_and_answers.ensures.always new end all sound refl runs);
      waits_for_one = c.orders_and_answers.ensures.waits new end all sound refl runs;
      queues_at_entries = at_later QueuesAtEntries (λ whole past like s law. law) whole steps more twins (c.orders_and_answers.ensures.queued new end all sound refl runs);
      waits_no_more = at_later WaitsNoMore (λ whole past like s law. law) whole steps more twins (c.orders_and_answers.ensures.again new end all sound refl runs);
      answers_once = at_later CountsAnswerOnce answers_once whole steps more twins (c.orders_and_answers.ensures.answered new end all sound refl runs);
      refusals = at_later RefusesWithoutChange (λ whole past like s law. law) whole steps more twins (c.refusals_leave_the_hall.ensures new end all runs);
    }

pub returns : goal.returns
returns c (created admin digest) begin end more begins also on =
    laws_since c admin digest [] [] more end no_steps tt (subst (λ (h : Hall). IsRun h more end) begins on) also
returns c (carried_over admin digest steps) begin end more begins also on =
    let new = new_hall second admin digest in
    let w = whole_of c.steps_keep_halls_sound.ensures.step steps new (new_hall first admin digest) begins.0
    (new_spares admin digest (c.new_halls_are_sound.ensures second admin digest)) (new_forgotten admin digest) begins.1 in
    let until = subst (IsRun new w.whole) (next_is new begins.0 begin steps w begins.2) w.run in
    laws_since c admin digest w.whole steps more end (c.first_laws_hold.ensures.laws admin digest begins.0 steps begins.1) w.twins (run_append w.whole more new begin end until on) also
