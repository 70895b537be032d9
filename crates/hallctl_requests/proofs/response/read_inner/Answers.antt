use Rattle.hallctl_requests.proofs.ReadingLemmas.{head_reads, rest_after}
use Rattle.hallctl_requests.proofs.response.read_inner.Goals as goal

pub returns-in-Head-clause-exact : goal.returns-in-Head-clause-exact
returns-in-Head-clause-exact c =
    head_reads c.args.octets.now c.suffix.result.now c.look_for_head.new.room c.in-Head.spans _
    (rw c.prefix-front.ensures.value at c.in-Head.ensures.1) c.look_for_head.auto.room c.suffix.ensures (rw c.prefix-front.ensures.value at c.answer_of.ensures.exact)

pub returns-in-Head-clause-rest : goal.returns-in-Head-clause-rest
returns-in-Head-clause-rest c = rest_after c.args.octets.now c.suffix.result.now c.in-Head.spans.len _ c.suffix.ensures c.answer_of.ensures.rest
