use Rattle.std.proofs.Common.{ap}
use Rattle.hallctl_requests.specs.{Request.{Question, request_of}, RequestLaws.{request_is_read, one_question}}
use Rattle.hallctl_requests.proofs.laws.one_request.Goals as goal

pub returns-clause-read : goal.returns-clause-read
returns-clause-read c = request_is_read

pub returns-clause-one : goal.returns-clause-one
returns-clause-one c =
    λ authority token one other a t h g. (one_question authority token one other a t h g, ap (λ (q : Question). request_of authority token q))
