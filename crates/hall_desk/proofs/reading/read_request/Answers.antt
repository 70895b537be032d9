use Rattle.std.proofs.{Common.{arith, inr, sym, ◌∙◌, true≢false}, lemmas.Grind.common_steps}
use Rattle.hall_desk.proofs.ServedLemmas.{by_need_end, by_need_read, consumes_then, in_time_read, reads_whole}
use Rattle.hall_desk.proofs.reading.read_request.Goals as goal

pub returns-in-Ok-true-clause-reads : goal.returns-in-Ok-true-clause-reads
returns-in-Ok-true-clause-reads g c =
    reads_whole _ _ _ _ c.whole-in-Ok-true.ensures
    (rw c.in-Ok-true.ensures.added (consumes_then _ _ _ _ _ c.loop-turn.invariant.0 c.in-Some.ensures.octets.0))
    (inr (c.in-Ok-true.ensures.decided c.in-Ok-true.field-0-test))

pub loop-turn-preserved : goal.loop-turn-preserved
loop-turn-preserved g c = (
  rw c.in-Ok-false.ensures.added (consumes_then _ _ _ _ _ c.loop-turn.invariant.0 c.in-Some.ensures.octets.0),
  grind (arith, common_steps),
  grind (arith, common_steps),
  inr (λ ends. true≢false (sym (c.in-Ok-false.ensures.ends ends) ∙ c.in-Ok-false.field-0-test)),
  λ new. let here = c.loop-turn.invariant.4 new in grind (arith, common_steps),
)

pub returns-then-count-eq0-clause-by_need : goal.returns-then-count-eq0-clause-by_need
returns-then-count-eq0-clause-by_need g c = λ new.
    let here = c.loop-turn.invariant.4 new in
    by_need_end _ _ _ _ _ _ _ _ c.loop-turn.invariant.0 c.in-Some.ensures.octets.0 c.if-count-eq0.true (grind (arith, common_steps)) (grind (arith, common_steps)) c.loop-turn.invariant.3

pub returns-in-Ok-true-clause-in_time : goal.returns-in-Ok-true-clause-in_time
returns-in-Ok-true-clause-in_time g c = in_time_read _ _ _ _ _ c.loop-turn.invariant.0 c.in-Some.ensures.octets.0 (grind (arith, common_steps)) c.loop-turn.invariant.3

pub returns-in-Err-clause-in_time : goal.returns-in-Err-clause-in_time
returns-in-Err-clause-in_time g c = in_time_read _ _ _ _ _ c.loop-turn.invariant.0 c.in-Some.ensures.octets.0 (grind (arith, common_steps)) c.loop-turn.invariant.3

pub returns-in-Ok-true-clause-by_need : goal.returns-in-Ok-true-clause-by_need
returns-in-Ok-true-clause-by_need g c = λ new.
    let here = c.loop-turn.invariant.4 new in
    by_need_read _ _ _ _ _ _ _ c.loop-turn.invariant.0 c.in-Some.ensures.octets.0 (grind (arith, common_steps)) (grind (arith, common_steps))

pub returns-in-Err-clause-by_need : goal.returns-in-Err-clause-by_need
returns-in-Err-clause-by_need g c = λ new.
    let here = c.loop-turn.invariant.4 new in
    by_need_read _ _ _ _ _ _ _ c.loop-turn.invariant.0 c.in-Some.ensures.octets.0 (grind (arith, common_steps)) (grind (arith, common_steps))

pub returns-then-count-eq0-clause-in_time : goal.returns-then-count-eq0-clause-in_time
returns-then-count-eq0-clause-in_time g c = in_time_read _ _ _ _ _ c.loop-turn.invariant.0 c.in-Some.ensures.octets.0 (grind (arith, common_steps)) c.loop-turn.invariant.3
