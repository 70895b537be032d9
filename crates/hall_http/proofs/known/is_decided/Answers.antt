use Rattle.hall_http.proofs.ReadingLemmas.{head_fits, never_decides, ready_decides, ends_ready}
use Rattle.hall_http.proofs.known.is_decided.Goals as goal

pub suffix-requires : goal.suffix-requires
suffix-requires c = head_fits c.args.octets.now c.in-Found.len c.in-Found.demand (rw c.in-Found.is at c.requires)

pub returns-in-Never-clause-decided : goal.returns-in-Never-clause-decided
returns-in-Never-clause-decided c = λ _. never_decides c.args.octets.now (rw c.in-Never.is at c.requires)

pub returns-in-Found-clause-decided : goal.returns-in-Found-clause-decided
returns-in-Found-clause-decided c = λ t.
    ready_decides c.args.octets.now c.in-Found.len c.in-Found.demand c.suffix.result.now (rw c.in-Found.is at c.requires) c.suffix.ensures (c.is_ready.ensures.0 t)

pub returns-in-Found-clause-ends : goal.returns-in-Found-clause-ends
returns-in-Found-clause-ends c = λ ends.
    c.is_ready.ensures.1
    (ends_ready c.args.octets.now c.in-Found.len c.in-Found.demand c.suffix.result.now (rw c.in-Found.is at c.requires) c.suffix.ensures ends)
