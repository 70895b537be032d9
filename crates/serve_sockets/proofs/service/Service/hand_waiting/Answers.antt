use Rattle.serve_sockets.specs.Stamps.{ended}
use Rattle.serve_sockets.proofs.{GatheringLemmas.{served_alone, served_together, stamped_none}, OwnLemmas.{answers_then, part_answers, same_answers}, WentOnLemmas.served_after}
use Rattle.serve_sockets.proofs.service.Service.hand_waiting.Goals as goal

pub hand_gathered-requires-clause-paired : goal.hand_gathered-requires-clause-paired
hand_gathered-requires-clause-paired g c = c.in-Ok.ensures.gathered.paired

pub hand_gathered-requires-clause-out : goal.hand_gathered-requires-clause-out
hand_gathered-requires-clause-out g c = c.in-Ok.ensures.gathered.are

pub hand_gathered-requires-clause-apart : goal.hand_gathered-requires-clause-apart
hand_gathered-requires-clause-apart g c = c.in-Ok.ensures.gathered.apart

pub returns-then-has_lone-clause-served : goal.returns-then-has_lone-clause-served
returns-then-has_lone-clause-served g c = λ from gave clean.
    served_after g.S.HallStore g.C.Source.may_give _ _ _ _ _ _ _ _ _ (same_answers _ _ c.hand.ensures)
    (served_alone g.S.HallStore g.C.Source.may_give _ _ _ _ _ c.args.tick from c.args.source.now gave _ ended (c.hand_alone.ensures.handed clean))

pub returns-in-Ok-clause-served : goal.returns-in-Ok-clause-served
returns-in-Ok-clause-served g c = λ from gave clean.
    served_after g.S.HallStore g.C.Source.may_give _ _ _ _ _ _ _ _ _ (answers_then _ _ _ (same_answers _ _ c.hand.ensures) (part_answers _ _ c.in-Ok.ensures.part))
    (served_alone g.S.HallStore g.C.Source.may_give _ _ _ _ _ c.args.tick from c.args.source.now gave c.gather.new.source
    (stamped_none g.C.Source.may_give c.in-Ok.ensures.gathered.stamped) (c.hand_alone-in-Ok.ensures.handed clean))

pub returns-in-Ok-2-clause-served : goal.returns-in-Ok-2-clause-served
returns-in-Ok-2-clause-served g c = λ from gave clean.
    served_after g.S.HallStore g.C.Source.may_give _ _ _ _ _ _ _ _ _ (same_answers _ _ c.hand.ensures)
    (served_together g.S.HallStore g.C.Source.may_give _ _ _ _ _ c.args.tick from c.args.source.now gave c.gather.new.source _ _ c.in-Ok.gathered c.in-Ok.ensures.gathered
    c.in-Ok.ensures.part (c.hand_gathered.ensures.handed clean))

pub returns-in-Err-clause-served : goal.returns-in-Err-clause-served
returns-in-Err-clause-served g c = λ from gave clean.
    rw c.in-Err.ensures.same
    (served_after g.S.HallStore g.C.Source.may_give _ _ _ _ _ _ _ _ _ (answers_then _ _ _ (same_answers _ _ c.hand.ensures) (part_answers _ _ c.in-Err.ensures.part))
    (served_alone g.S.HallStore g.C.Source.may_give _ _ _ _ _ c.args.tick from c.args.source.now gave _ ended (c.hand_alone-in-Err.ensures.handed clean)))
