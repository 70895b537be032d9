use Rattle.serve_sockets.proofs.{OwnLemmas.{answers_then, part_answers, same_answers, set_free_part}, TurnLemmas.{nothing_handed, step_turn}}
use Rattle.serve_sockets.proofs.service.Service.connection.Goals as goal

pub returns-in_default-clause-desk : goal.returns-in_default-clause-desk
returns-in_default-clause-desk g c =
    nothing_handed g.S.HallStore _ _ _ _ _ tt
    (answers_then _ _ _ (part_answers _ _ (set_free_part _ _ _ c.take.ensures.free)) (same_answers _ _ c.rest.ensures.slots))

pub returns-clause-desk : goal.returns-clause-desk
returns-clause-desk g c =
    step_turn g.S.HallStore _ _ _ _ _ c.advance-step.result c.settle.result _ _ _ _ _ _ (c.in-Some.ensures.taken, c.take.ensures.free) c.advance-step.ensures.number
    c.advance-step.ensures.own c.settle.ensures.put c.settle.ensures.turn c.advance-step.ensures.step
