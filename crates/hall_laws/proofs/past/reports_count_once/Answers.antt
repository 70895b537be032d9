use Rattle.hall_laws.{specs.Laws.{CountsStartedFirst, CountsVerdictOnce}, proofs.{Frame.always, Counts.{KnowsCounts, counts_step, new_counts, started_first, verdict_once}}}
use Rattle.hall_laws.proofs.past.reports_count_once.Goals as goal

pub returns : goal.returns
returns c = record {
  started = always c.steps_keep_halls_sound.ensures.step KnowsCounts counts_step new_counts CountsStartedFirst started_first;
  verdict = always c.steps_keep_halls_sound.ensures.step KnowsCounts counts_step new_counts CountsVerdictOnce verdict_once;
}
