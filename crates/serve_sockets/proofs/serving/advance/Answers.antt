use Rattle.serve_sockets.{specs.declared.serving.Step.Step, proofs.TurnLemmas.only_moved}
use Rattle.serve_sockets.proofs.serving.advance.Goals as goal

pub returns-then-is_answered-clause-step : goal.returns-then-is_answered-clause-step
returns-then-is_answered-clause-step g c = only_moved g.S.HallStore _ _ c.put.result c.put.ensures.moved

pub returns-then-is_waiting-clause-step : goal.returns-then-is_waiting-clause-step
returns-then-is_waiting-clause-step g c = only_moved g.S.HallStore _ _ Step.Waits tt

pub returns-else-is_waiting-clause-step : goal.returns-else-is_waiting-clause-step
returns-else-is_waiting-clause-step g c = c.take.ensures.step
