use Rattle.sql_schema.specs.{Words.{state, earlier, survives_none, survives_both}, StepLaws.{gives, next, stays}}
use Rattle.std.proofs.Common.{Ok, refl, subst, ◌∙◌}
use Rattle.sql_tables.{specs.Migrating.with_kinds_of, proofs.{CarryingLemmas.{AreLeft, left_next, left_none}, TransactionLemmas.{left_at, left_none_at}}}
use Rattle.sql_tables.proofs.migrating.put_kinds.Goals as goal

pub rows-init : goal.rows-init
rows-init g c = record {
  same = refl;
  made = λ clean. stays _ _ (Ok tt) (λ hall_rows ms is was. record { machines = ms; are = is; so_far = hall_rows; spelt = was; makes = refl });
  survives = survives_none _;
}

pub rows-preserved : goal.rows-preserved
rows-preserved g c =
    let left = left_at c.deref-row-items.result.now c.args.rows.now.items c.rows.row-index c.row-item.result c.deref-row-items.ensures.value c.rows-test.true c.row-item.is in
    record {
      same = c.put_kind.ensures.same_reference ∙ c.rows.invariant.same;
      made = λ clean. next _ tt (Ok tt) (c.rows.invariant.made (earlier c.put_kind.ensures.survives clean)) (c.in_ok-put_kind.ensures.made clean)
          (λ done so_far made hall_rows ms is was.
          left_next c.row-item.result _ (state g.S.Store c.rows.tx.conn.now).now (state g.S.Store c.put_kind.new.tx.conn.now).now (with_kinds_of hall_rows ms)
          (subst (λ rows. AreLeft rows (state g.S.Store c.rows.tx.conn.now).now (with_kinds_of hall_rows ms)) left (so_far hall_rows ms is was)) made);
      survives = survives_both c.rows.invariant.survives c.put_kind.ensures.survives;
    }

pub returns-clause-made : goal.returns-clause-made
returns-clause-made g c clean =
    gives _ (Ok tt) (c.rows.invariant.made clean)
    (λ done so_far hall_rows ms is was.
    left_none (state g.S.Store c.rows.tx.conn.now).now (with_kinds_of hall_rows ms)
    (subst (λ rows. AreLeft rows (state g.S.Store c.rows.tx.conn.now).now (with_kinds_of hall_rows ms)) (left_none_at c.deref-row-items.result.now c.args.rows.now.items c.rows.row-index c.deref-row-items.ensures.value c.rows-test.false) (so_far hall_rows ms is was)))
