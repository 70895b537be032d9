use Rattle.std.proofs.Common.{arith}
use Rattle.hall_http.proofs.{DecidedLemmas.open_ends, ReadingLemmas.{never_if_full, never_if_over}}
use Rattle.hall_http.proofs.known.look.Goals as goal

pub returns-then-octets-ge-MAX_HEAD_LEN : goal.returns-then-octets-ge-MAX_HEAD_LEN
returns-then-octets-ge-MAX_HEAD_LEN c =
    never_if_full c.args.octets.now (rw c.prefix-front.ensures.value at c.in-Open.ensures.0) c.if-octets-ge-MAX_HEAD_LEN.true

pub returns-else-octets-ge-MAX_HEAD_LEN : goal.returns-else-octets-ge-MAX_HEAD_LEN
returns-else-octets-ge-MAX_HEAD_LEN c =
    let found = rw c.prefix-front.ensures.value at c.in-Open.ensures in
    (found.0, λ ends. omega (arith, open_ends c.args.octets.now found.0 found.1 ends, c.if-octets-ge-MAX_HEAD_LEN.false))

pub returns-in-Never : goal.returns-in-Never
returns-in-Never c = never_if_over c.args.octets.now (rw c.prefix-front.ensures.value at c.in-Never.ensures)
