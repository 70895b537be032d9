use Rattle.std.proofs.Common.{ap, refl}
use Rattle.serve_sockets.{specs.Prelude.{Request}, proofs.{GatheringLemmas.{back_part, gathered_more, gathered_same, gathered_unstamped, out_after_back, out_after_freed, took_part}, OwnLemmas.freed_part}}
use Rattle.serve_sockets.proofs.sockets.Sockets.gather_next.Goals as goal

pub returns-in_default-clause-gathered : goal.returns-in_default-clause-gathered
returns-in_default-clause-gathered g c = λ from most slots part it. gathered_same g.C.Source.may_give from slots _ _ most _ _ (out_after_freed _ _ c.in_default.ensures.none _ it.are) it

pub returns-in_default-clause-part : goal.returns-in_default-clause-part
returns-in_default-clause-part g c = freed_part _ _ c.in_default.ensures.none

pub returns-in_default-shared_request-clause-gathered : goal.returns-in_default-shared_request-clause-gathered
returns-in_default-shared_request-clause-gathered g c = λ from most slots part it.
    gathered_same g.C.Source.may_give from slots _ _ most _ _
    (out_after_back _ _ _ _ _ c.in-Some.ensures.out c.put_back.ensures.put _ it.are) it

pub returns-in_default-shared_request-clause-part : goal.returns-in_default-shared_request-clause-part
returns-in_default-shared_request-clause-part g c = back_part _ _ _ _ c.in-Some.ensures.out _ c.put_back.ensures.put

pub returns-in_default-tick-clause-gathered : goal.returns-in_default-tick-clause-gathered
returns-in_default-tick-clause-gathered g c = λ from most slots part it.
    gathered_unstamped g.C.Source.may_give from slots _ _ most _ _ _
    (out_after_back _ _ _ _ _ c.in-Some.ensures.out c.put_back-in_default-tick.ensures.put _ it.are) c.in_default-tick.ensures it

pub returns-in_default-tick-clause-part : goal.returns-in_default-tick-clause-part
returns-in_default-tick-clause-part g c = back_part _ _ _ _ c.in-Some.ensures.out _ c.put_back-in_default-tick.ensures.put

pub returns-clause-gathered : goal.returns-clause-gathered
returns-clause-gathered g c = λ from most slots part it.
    gathered_more g.C.Source.may_give from slots _ _ most _ _ _ _ c.in-Some-tick.tick c.in-Some-tick.ensures _ c.in-Some.client
    c.add.ensures.arrivals c.add.ensures.clients refl refl (ap Request c.in-Some-shared_request.ensures) part c.in-Some.ensures.out it

pub returns-clause-part : goal.returns-clause-part
returns-clause-part g c = took_part _ _ _ _ c.in-Some.ensures.out
