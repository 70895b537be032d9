use Rattle.hall_laws.{specs.Laws.{AlwaysWaitsForOne, CountsAnswerOnce, QueuesAtEntries, WaitsNoMore}, proofs.{Frame.{always, at_step}, OrderLemmas.{KnowsAnswers, answers_once, answers_step, new_answers, one_waits, queues_at_entries, waits_no_more}}}
use Rattle.hall_laws.proofs.past.orders_and_answers.Goals as goal

pub returns : goal.returns
returns c = record {
  waits = λ h end steps sound in_second run. one_waits end (c.steps_keep_halls_sound.ensures.run h end steps run sound in_second).0;
  always = at_step c.steps_keep_halls_sound.ensures.step AlwaysWaitsForOne (λ past s is sound. one_waits s.before sound);
  queued = at_step c.steps_keep_halls_sound.ensures.step QueuesAtEntries queues_at_entries;
  again = at_step c.steps_keep_halls_sound.ensures.step WaitsNoMore waits_no_more;
  answered = always c.steps_keep_halls_sound.ensures.step KnowsAnswers answers_step new_answers CountsAnswerOnce answers_once;
}
