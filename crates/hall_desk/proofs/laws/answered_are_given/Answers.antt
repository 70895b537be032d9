use Rattle.hall_desk.proofs.RunLemmas.{answered_given}
use Rattle.hall_desk.proofs.laws.answered_are_given.Goals as goal

pub returns : goal.returns
returns c = answered_given
