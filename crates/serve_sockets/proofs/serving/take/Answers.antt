use Rattle.std.proofs.Common.{inl, inr}
use Rattle.serve_sockets.{specs.declared.serving.Step.Step, proofs.{ServingLemmas.{refused_request, whole_step}, TurnLemmas.{keeps_same, only_moved}}}
use Rattle.serve_sockets.proofs.serving.take.Goals as goal

pub returns-in-Waits-clause-step : goal.returns-in-Waits-clause-step
returns-in-Waits-clause-step g c = only_moved g.S.HallStore _ _ Step.Waits tt

pub returns-in-More-clause-step : goal.returns-in-More-clause-step
returns-in-More-clause-step g c = only_moved g.S.HallStore _ _ Step.Moved tt

pub returns-in-Whole-clause-step : goal.returns-in-Whole-clause-step
returns-in-Whole-clause-step g c = whole_step g.S.HallStore _ _ _ _ c.decide.result _ _ _ _ _ c.in-Whole.ensures.taken.0 (inr c.in-Whole.ensures.taken.1) c.decide.ensures.step

pub returns-in-Ended-clause-step : goal.returns-in-Ended-clause-step
returns-in-Ended-clause-step g c =
    whole_step g.S.HallStore _ _ _ _ (Step.Handed c.hand_request.result) _ _ _ _ _ c.in-Ended.ensures.taken.0 (inl c.in-Ended.ensures.taken.1)
    (record { kept = c.hand_request.ensures.kept; did = c.hand_request.ensures.waits })

pub returns-in-NoMemory-clause-step : goal.returns-in-NoMemory-clause-step
returns-in-NoMemory-clause-step g c = record {
  kept = keeps_same g.S.HallStore _;
  did = λ clean. refused_request _ g.S.HallStore.wider _ _ _ _ _ _ _ _ _ c.give.ensures.tells c.give.ensures.answered.1;
}

pub returns-in-Failed-clause-step : goal.returns-in-Failed-clause-step
returns-in-Failed-clause-step g c = only_moved g.S.HallStore _ _ Step.Failed tt

pub decide-requires : goal.decide-requires
decide-requires g c = inr c.in-Whole.ensures.taken.1
