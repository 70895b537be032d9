use Rattle.hall_desk.proofs.HistoryLemmas.{steps_of}
use Rattle.hall_desk.proofs.laws.items_are_steps.Goals as goal

pub returns : goal.returns
returns c = steps_of
