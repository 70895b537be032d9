use Rattle.serve_sockets.proofs.OwnLemmas.{new_unanswered, unanswered}
use Rattle.serve_sockets.proofs.sockets.Sockets.admit.Goals as goal

pub returns-clause-answers : goal.returns-clause-answers
returns-clause-answers c =
    new_unanswered _ _ c.slot_for_new-slot.result c.new-connection.result c.slot_for_new-slot.ensures.within (unanswered c.new-connection.result c.new-connection.ensures.open)
    c.open-instead_of.ensures
