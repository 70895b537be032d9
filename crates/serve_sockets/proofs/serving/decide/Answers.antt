use Rattle.std.proofs.Common.{refl}
use Rattle.serve_sockets.proofs.TurnLemmas.{keeps_same}
use Rattle.serve_sockets.proofs.serving.decide.Goals as goal

pub returns-then-is_called-clause-step : goal.returns-then-is_called-clause-step
returns-then-is_called-clause-step g c = record { kept = c.hand_request.ensures.kept; did = c.hand_request.ensures.waits }

pub returns-in-None-clause-step : goal.returns-in-None-clause-step
returns-in-None-clause-step g c = record { kept = keeps_same g.S.HallStore _; did = refl }
