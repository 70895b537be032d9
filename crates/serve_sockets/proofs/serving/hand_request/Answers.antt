use Rattle.serve_sockets.proofs.{ServingLemmas.{refused_waiting}}
use Rattle.serve_sockets.proofs.serving.hand_request.Goals as goal

pub returns-in_default-clause-waits : goal.returns-in_default-clause-waits
returns-in_default-clause-waits g c = λ clean. refused_waiting _ g.S.HallStore.wider _ _ _ _ _ _ _ c.give.ensures.tells c.give.ensures.answered.1
