use Rattle.std.proofs.Common.{arith}
use Rattle.serve_sockets.{specs.Service.desk_of, proofs.{GatheringLemmas.served_from, OwnLemmas.{answers_then, same_answers}, WentOnLemmas.{did_nothing, served_after, served_one, served_unstamped, served_within}}}
use Rattle.serve_sockets.proofs.service.Service.serve_turn.Goals as goal

pub returns-in_default-clause-served : goal.returns-in_default-clause-served
returns-in_default-clause-served g c = λ clean.
    rw c.miss.ensures.desk
    (rw c.wait.ensures.desk
    (served_within g.S.HallStore g.C.Source.may_give _ _ _ _ _ 1 64 _ _ (omega arith)
    (served_unstamped g.S.HallStore g.C.Source.may_give _ _ _ _ _ _ _ (answers_then _ _ _ (same_answers _ _ c.wait.ensures.connections) (same_answers _ _ c.miss.ensures.connections))
    c.wait.ensures.source c.in_default.ensures)))

pub returns-then-is_group_due-clause-served : goal.returns-then-is_group_due-clause-served
returns-then-is_group_due-clause-served g c = λ clean.
    rw (← c.wait.ensures.desk)
    (served_after g.S.HallStore g.C.Source.may_give _ _ _ _ _ _ _ _ _ (answers_then _ _ _ (same_answers _ _ c.wait.ensures.connections) (same_answers _ _ c.begin.ensures))
    (served_from g.S.HallStore g.C.Source.may_give _ _ _ _ _ _ _ _ 64 c.wait.ensures.source (c.hand_waiting.ensures.served _ c.in-Some.ensures clean)))

pub returns-clause-served : goal.returns-clause-served
returns-clause-served g c = λ clean.
    rw (← c.wait.ensures.desk)
    (served_after g.S.HallStore g.C.Source.may_give _ _ _ _ _ _ _ _ _ (answers_then _ _ _ (same_answers _ _ c.wait.ensures.connections) (same_answers _ _ c.begin.ensures))
    (served_within g.S.HallStore g.C.Source.may_give _ _ _ _ _ 1 64 _ _ (omega arith)
    (served_one g.S.HallStore g.C.Source.may_give _ (desk_of c.turn-turn.new.self) _ _ _ _ _ c.wait.ensures.source c.in-Some.tick c.in-Some.ensures
    c.turn-turn.result clean c.turn-turn.ensures.desk.did)))

pub returns-then-is_group_due-2-clause-served : goal.returns-then-is_group_due-2-clause-served
returns-then-is_group_due-2-clause-served g c = λ clean.
    let did = did_nothing g.S.HallStore _ _ _ _ c.in-Some.tick.stamp c.turn-turn.result (c.is_decided.ensures c.if-is_decided.true) c.turn-turn.ensures.desk.did in
    rw (← c.wait.ensures.desk)
    (served_after g.S.HallStore g.C.Source.may_give _ _ _ _ _ _ _ _ _ (answers_then _ _ _ (same_answers _ _ c.wait.ensures.connections) (same_answers _ _ c.begin.ensures))
    (served_from g.S.HallStore g.C.Source.may_give _ _ _ _ _ _ _ _ 64 c.wait.ensures.source
    (rw (← did.0) (served_after g.S.HallStore g.C.Source.may_give _ _ _ _ _ _ _ _ _ did.1 (c.hand_waiting-then-is_group_due-2.ensures.served _ c.in-Some.ensures clean)))))
