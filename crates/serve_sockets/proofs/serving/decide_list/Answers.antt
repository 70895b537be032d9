use Rattle.serve_sockets.proofs.{ServingLemmas.waiting_after, TurnLemmas.keeps_then}
use Rattle.serve_sockets.proofs.serving.decide_list.Goals as goal

pub returns-then-is_known-clause-step : goal.returns-then-is_known-clause-step
returns-then-is_known-clause-step g c = record {
  kept = c.is_known.ensures.kept;
  did = c.is_known.ensures.read;
}

pub returns-clause-step : goal.returns-clause-step
returns-clause-step g c = record {
  kept = keeps_then g.S.HallStore _ _ _ c.is_known.ensures.kept c.hand_request.ensures.kept;
  did = λ clean.
      waiting_after g.S.HallStore _ _ _ _ _ _ _ _ _ _ c.is_known.ensures.kept.site (c.is_known.ensures.read (c.hand_request.ensures.kept.clean clean))
      (c.hand_request.ensures.waits clean);
}
