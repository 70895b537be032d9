use Rattle.serve_sockets.proofs.OwnLemmas.{part_answers, set_free_part}
use Rattle.serve_sockets.proofs.sockets.Sockets.close_late.Goals as goal

pub returns-clause-answers : goal.returns-clause-answers
returns-clause-answers c = part_answers _ _ (set_free_part _ _ _ c.take.ensures.free)
