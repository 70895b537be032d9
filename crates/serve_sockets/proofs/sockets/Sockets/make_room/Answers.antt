use Rattle.serve_sockets.proofs.OwnLemmas.{answers_then, part_answers, same_answers, set_free_part}
use Rattle.serve_sockets.proofs.sockets.Sockets.make_room.Goals as goal

pub returns-in-Some-clause-answers : goal.returns-in-Some-clause-answers
returns-in-Some-clause-answers c = answers_then _ _ _ (part_answers _ _ (set_free_part _ _ _ c.take.ensures.free)) (same_answers _ _ c.close.ensures.slots)

pub returns-in-None-clause-answers : goal.returns-in-None-clause-answers
returns-in-None-clause-answers c = answers_then _ _ _ (part_answers _ _ (set_free_part _ _ _ c.take.ensures.free)) (same_answers _ _ c.missed.ensures.slots)
