use Rattle.hall_http.specs.ResponseLaws.{answer_has_response}
use Rattle.hall_http.proofs.laws.answers_have_responses.Goals as goal

pub returns : goal.returns
returns c = answer_has_response
