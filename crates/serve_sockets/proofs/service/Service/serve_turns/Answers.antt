use Rattle.std.proofs.Common.{arith}
use Rattle.serve_sockets.proofs.{TurnLemmas.{keeps_same, keeps_then}, WentOnLemmas.{served_none, served_then, served_within, went_on}}
use Rattle.serve_sockets.proofs.service.Service.serve_turns.Goals as goal

pub loop-served-init : goal.loop-served-init
loop-served-init g c = record {
  kept = keeps_same g.S.HallStore _;
  served = λ clean. served_none g.S.HallStore g.C.Source.may_give _ _ _ _ _;
}

pub loop-served-preserved : goal.loop-served-preserved
loop-served-preserved g c =
    let before = c.loop-served.invariant in
    record {
      kept = keeps_then g.S.HallStore _ _ _ before.kept c.serve_turn.ensures.kept;
      served = λ clean.
          served_within g.S.HallStore g.C.Source.may_give _ _ _ _ _ _ _ _ _ (omega arith)
          (served_then g.S.HallStore g.C.Source.may_give _ _ _ _ _ _ _ _ _ _ _ _ _ before.kept.site (before.served (c.serve_turn.ensures.kept.clean clean))
          (c.serve_turn.ensures.served clean));
    }

pub returns-then-serve_turn-clause-kept : goal.returns-then-serve_turn-clause-kept
returns-then-serve_turn-clause-kept g c = keeps_then g.S.HallStore _ _ _ c.loop-served.invariant.kept c.serve_turn.ensures.kept

pub returns-then-serve_turn-clause-went_on : goal.returns-then-serve_turn-clause-went_on
returns-then-serve_turn-clause-went_on g c = λ clean.
    let before = c.loop-served.invariant in
    went_on (record { laws = c.histories_keep_the_laws.ensures }) g.S.HallStore g.C.Source.may_give _ _ _ _ _ _ _ _
    (served_within g.S.HallStore g.C.Source.may_give _ _ _ _ _ _ _ _ _ (omega arith)
    (served_then g.S.HallStore g.C.Source.may_give _ _ _ _ _ _ _ _ _ _ _ _ _ before.kept.site (before.served (c.serve_turn.ensures.kept.clean clean))
    (c.serve_turn.ensures.served clean)))

pub returns-clause-kept : goal.returns-clause-kept
returns-clause-kept g c = c.loop-served.invariant.kept

pub returns-clause-went_on : goal.returns-clause-went_on
returns-clause-went_on g c = λ clean.
    went_on (record { laws = c.histories_keep_the_laws.ensures }) g.S.HallStore g.C.Source.may_give _ _ _ _ _ _ _ _
    (served_within g.S.HallStore g.C.Source.may_give _ _ _ _ _ _ _ _ _ (omega arith) (c.loop-served.invariant.served clean))
