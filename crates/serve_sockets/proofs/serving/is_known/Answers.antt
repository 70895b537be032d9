use Rattle.serve_sockets.proofs.ServingLemmas.{read_by_look}
use Rattle.serve_sockets.proofs.serving.is_known.Goals as goal

pub returns-in-Ok-clause-read : goal.returns-in-Ok-clause-read
returns-in-Ok-clause-read g c = λ clean. read_by_look g.S.HallStore _ _ _ _ (c.in-Ok.ensures.sender clean).1

pub returns-in-Err-clause-read : goal.returns-in-Err-clause-read
returns-in-Err-clause-read g c = λ clean. read_by_look g.S.HallStore _ _ _ _ (c.in-Err.ensures.sender clean).1
