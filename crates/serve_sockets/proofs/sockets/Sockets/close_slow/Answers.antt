use Rattle.serve_sockets.proofs.OwnLemmas.{answers_then, part_answers, same_answers, set_free_part}
use Rattle.serve_sockets.proofs.sockets.Sockets.close_slow.Goals as goal

pub returns-clause-answers : goal.returns-clause-answers
returns-clause-answers c = answers_then _ _ _ (part_answers _ _ (set_free_part _ _ _ c.take.ensures.free)) (same_answers _ _ c.close.ensures.slots)
