use Rattle.hall_http.specs.ResponseLaws.{one_response}
use Rattle.hall_http.proofs.laws.one_response.Goals as goal

pub returns : goal.returns
returns c = one_response
