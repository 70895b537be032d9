use Rattle.hall_laws.{specs.Laws.ScriptIsAsked, proofs.{AnswerLemmas.script_is_asked, Frame.at_step}}
use Rattle.hall_laws.proofs.past.scripts_are_asked.Goals as goal

pub returns : goal.returns
returns c = at_step c.steps_keep_halls_sound.ensures.step ScriptIsAsked script_is_asked
