use Rattle.std.proofs.{Common.{rules, arith}, Math.Seq.take-add}
use Rattle.hall_desk.proofs.ServedLemmas.{appends_then}
use Rattle.hall_desk.proofs.serving.write_octets.Goals as goal

pub loop-at-preserved : goal.loop-at-preserved
loop-at-preserved g c = (
  omega (arith, c.in-Some.ensures.bound, c.loop-at.invariant.0, c.octets_from.ensures.len),
  rw take-add (appends_then _ _ _ _ _ c.loop-at.invariant.1 (rw c.octets_from.ensures.value at c.in-Some.ensures.octets)),
  search rules,
)
