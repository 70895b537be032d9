use Rattle.std.proofs.Common.{sym, ◌∙◌}
use Rattle.hall_http.proofs.TargetLemmas.{coded_first, other_first, goes_on, ends}
use Rattle.hall_http.proofs.target.with_colons.Goals as goal

pub loop-rest-preserved-then-begins_with_coded_colon :
    goal.loop-rest-preserved-then-begins_with_coded_colon
loop-rest-preserved-then-begins_with_coded_colon c =
    goes_on c.loop-rest.octets.items _ c.loop-rest.rest.now _ c.args.text.now 58 c.in_ok-push.ensures.items
    (rw c.suffix-rest.ensures (coded_first c.loop-rest.rest.now (sym c.begins_with_coded_colon.ensures ∙ c.if-begins_with_coded_colon.true)))
    c.loop-rest.invariant

pub loop-rest-preserved : goal.loop-rest-preserved
loop-rest-preserved c =
    goes_on c.loop-rest.octets.items _ c.loop-rest.rest.now _ c.args.text.now _ c.in_ok-push-2.ensures.items
    (rw c.suffix-rest-else-begins_with_coded_colon.ensures
    (other_first c.loop-rest.rest.now (sym c.is_empty.ensures ∙ c.loop-rest-test.true) (sym c.begins_with_coded_colon.ensures ∙ c.if-begins_with_coded_colon.false)))
    c.loop-rest.invariant

pub returns : goal.returns
returns c = ends c.loop-rest.octets.items c.loop-rest.rest.now c.args.text.now (sym c.is_empty.ensures ∙ c.loop-rest-test.false) c.loop-rest.invariant
