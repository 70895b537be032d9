use Rattle.hall_types.specs.KindLaws.{act_by_text}
use Rattle.hall_types.proofs.laws.words_are_of_one_kind.Goals as goal

pub returns-clause-act : goal.returns-clause-act
returns-clause-act c = act_by_text
