use Rattle.hall_laws.{specs.Laws.NumbersOnce, proofs.{Frame.always, NumbersOnceLemmas.{IsGivenOut, given_step, new_given, numbers_once}}}
use Rattle.hall_laws.proofs.past.numbers_once.Goals as goal

pub returns : goal.returns
returns c = always c.steps_keep_halls_sound.ensures.step IsGivenOut given_step new_given NumbersOnce numbers_once
