use Rattle.hall_events.specs.ReplyLaws.{one_content}
use Rattle.hall_events.proofs.laws.different_answers.Goals as goal

pub returns : goal.returns
returns c = one_content
