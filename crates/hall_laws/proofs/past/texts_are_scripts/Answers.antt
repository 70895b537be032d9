use Rattle.hall_laws.{specs.{Prelude.second, Step.IsTypedStep, Laws.GivesScripts}, proofs.{Frame.from_new_given, Scripts.{KnowsRows, gives_scripts, knows_step, new_rows}}}
use Rattle.hall_laws.proofs.past.texts_are_scripts.Goals as goal

pub returns : goal.returns
returns c = from_new_given c.steps_keep_halls_sound.ensures.step IsTypedStep KnowsRows knows_step (c.new_halls_are_sound.ensures second) new_rows GivesScripts gives_scripts
