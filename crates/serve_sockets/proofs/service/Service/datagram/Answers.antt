use Rattle.std.proofs.{Common.sym, lemmas.List.length-take-le}
use Rattle.serve_sockets.proofs.{OwnLemmas.same_answers, TurnLemmas.{nothing_handed}}
use Rattle.serve_sockets.proofs.service.Service.datagram.Goals as goal

pub slice_bounds-datagram-end : goal.slice_bounds-datagram-end
slice_bounds-datagram-end g c = sym (length-take-le c.in-Ok.received.0 c.as_slice.result.now (rw c.as_slice.ensures.len c.in-Ok.ensures.within))

pub returns-in-Err-clause-desk : goal.returns-in-Err-clause-desk
returns-in-Err-clause-desk g c = nothing_handed g.S.HallStore _ _ _ _ c.in-Err.turn c.in-Err.ensures.none (same_answers _ _ c.in-Err.ensures.slots)
