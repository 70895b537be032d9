use Rattle.std.proofs.Common.{rules, List, Option, subst, sym}
use Rattle.hallctl_tasks.{specs.{Exchange.{AreInVain, AreUnsent, none, says, unsent_none}, Try.Try}, proofs.ExchangeLemmas.{one_more_in_vain, one_more_unsent}}
use Rattle.hallctl_tasks.proofs.exchanging.exchange.Goals as goal

pub tries-init : goal.tries-init
tries-init g c = record {
  vain = subst (λ (after : Option (List Try)). AreInVain (g.D.Dial.tries c.args.dial.now) c.args.octets.now after) (sym c.passed-start.ensures.same) none;
  unsent = λ yes. subst (λ (after : Option (List Try)). AreUnsent (g.D.Dial.tries c.args.dial.now) after) (sym c.passed-start.ensures.same) unsent_none;
}

pub tries-preserved : goal.tries-preserved
tries-preserved g c = record {
  vain = one_more_in_vain _ _ (says c.tried-outcome.result) _ _ _ c.tries.invariant.vain c.tried-outcome.ensures.one (search rules) c.left_after-left.ensures;
  unsent = λ yes. let both = c.are_both-is_unsent.ensures yes in
      one_more_unsent _ _ _ _ (c.tries.invariant.unsent both.0) (c.tried-outcome.ensures.unsent (c.in-Some.ensures.unsent both.1)) c.left_after-left.ensures;
}

pub returns-then-left-eq0-clause-unsent : goal.returns-then-left-eq0-clause-unsent
returns-then-left-eq0-clause-unsent g c = λ said. let both = c.are_both-is_unsent.ensures (c.in_vain.ensures.unsent said) in
    one_more_unsent _ _ _ _ (c.tries.invariant.unsent both.0) (c.tried-outcome.ensures.unsent (c.in-Some.ensures.unsent both.1)) c.left_after-left.ensures
