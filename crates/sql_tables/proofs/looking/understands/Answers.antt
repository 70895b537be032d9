use Rattle.sql_schema.specs.{Words.{at_drop_all, at_drop_more, state, earlier, survives_none, survives_both}, StepLaws.{next, stays}}
use Rattle.std.proofs.Common.{map, Ok, refl, sym, subst, ◌∙◌}
use Rattle.sql_tables.{specs.Opening.AreUnderstood, proofs.LookLemmas.{not_run_step, one_missing, one_understood, understood_step}}
use Rattle.sql_tables.proofs.looking.understands.Goals as goal

pub loop-text-init : goal.loop-text-init
loop-text-init g c = record {
  same = refl;
  step = λ clean. stays _ _ (Ok tt) refl;
  found = λ clean. (λ all. all, λ all. all);
  survives = survives_none _;
}

pub loop-text-preserved : goal.loop-text-preserved
loop-text-preserved g c =
    let left = at_drop_more (map (λ text. text.now)) c.args.texts.now c.loop-text.text-index _ c.loop-text-test.true in
    record {
      same = c.prepare.ensures.same_reference ∙ c.loop-text.invariant.same;
      step = λ clean. next _ tt (Ok tt) (c.loop-text.invariant.step (earlier c.prepare.ensures.survives clean)) (understood_step (state g.S.Store c.loop-text.tx.conn.now) (state g.S.Store c.prepare.new.self.conn.now) (c.in_default.ensures.ok clean).1) (λ done first second. second ∙ first);
      found = λ clean.
          let before = earlier c.prepare.ensures.survives clean in
          one_understood (state g.S.Store c.args.tx.now.conn.now).now (state g.S.Store c.loop-text.tx.conn.now) _ _ _ _ (c.loop-text.invariant.step before).gives left (c.loop-text.invariant.found before) _ (c.in_default.ensures.shape clean);
      survives = survives_both c.loop-text.invariant.survives c.prepare.ensures.survives;
    }

pub returns-in-Err-clause-step : goal.returns-in-Err-clause-step
returns-in-Err-clause-step g c clean =
    next _ tt _ (c.loop-text.invariant.step (earlier c.prepare.ensures.survives clean)) (not_run_step (state g.S.Store c.loop-text.tx.conn.now) (state g.S.Store c.prepare.new.self.conn.now) _ c.in-Err.error c.fault_of.result (c.in-Err.ensures.err clean) _) (λ done first second. second)

pub returns-in-Err-clause-found : goal.returns-in-Err-clause-found
returns-in-Err-clause-found g c clean =
    let left = at_drop_more (map (λ text. text.now)) c.args.texts.now c.loop-text.text-index _ c.loop-text-test.true in
    let before = earlier c.prepare.ensures.survives clean in
    one_missing (state g.S.Store c.args.tx.now.conn.now).now (state g.S.Store c.loop-text.tx.conn.now) _ _ _ _ (c.loop-text.invariant.step before).gives left (c.loop-text.invariant.found before)
    (state g.S.Store c.prepare.new.self.conn.now) c.in-Err.error c.fault_of.result (c.in-Err.ensures.err clean) c.fault_of.ensures.missing c.fault_of.ensures.never

pub returns-clause-found : goal.returns-clause-found
returns-clause-found g c clean =
    (c.loop-text.invariant.found clean).1 (subst (AreUnderstood (state g.S.Store c.args.tx.now.conn.now).now.schema) (sym (at_drop_all (map (λ text. text.now)) c.args.texts.now c.loop-text.text-index c.loop-text-test.false)) tt)
