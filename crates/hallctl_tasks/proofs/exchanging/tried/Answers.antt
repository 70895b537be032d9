use Rattle.std.proofs.Common.{refl}
use Rattle.hallctl_tasks.specs.Try.{came_of}
use Rattle.hallctl_tasks.proofs.exchanging.tried.Goals as goal

pub returns-clause-one : goal.returns-clause-one
returns-clause-one g c = record {
  one = record { sent = c.args.octets.now; came = came_of c.attempt.result };
  sent = refl;
  heard = c.known.ensures.known;
  added = c.attempt.ensures.tried;
}

pub returns-clause-unsent : goal.returns-clause-unsent
returns-clause-unsent g c = λ unsent. record {
  one = record { sent = c.args.octets.now; came = came_of c.attempt.result };
  unsent = c.known.ensures.unsent unsent;
  added = c.attempt.ensures.tried;
}
