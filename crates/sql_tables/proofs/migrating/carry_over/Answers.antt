use Rattle.sql_schema.specs.{Words.state, StepLaws.{gives, then}}
use Rattle.sql_tables.{specs.Migrating.IsFirst, proofs.CarryingLemmas.{carried}}
use Rattle.std.proofs.Common.{subst, sym}
use Rattle.sql_tables.proofs.migrating.carry_over.Goals as goal

pub returns-clause-made : goal.returns-clause-made
returns-clause-made g c clean =
    gives _ c.put_kinds.result
    (then (then (then (then c.in_ok-make_missing.ensures.step c.run.ensures.survives c.in_ok-run.ensures.ran) c.run-2.ensures.survives c.in_ok-run-2.ensures.ran) c.ask.ensures.survives c.in_ok-rows.ensures.asked) c.put_kinds.ensures.survives c.put_kinds.ensures.made clean)
    (λ done all h every was. carried (state g.S.Store c.make_missing.new.tx.conn.now) (state g.S.Store c.run.new.tx.conn.now) (state g.S.Store c.run-2.new.tx.conn.now) (state g.S.Store c.ask.new.tx.conn.now) (state g.S.Store c.put_kinds.new.tx.conn.now)
    c.in_ok-rows.rows.items all.0.0.0.1 all.0.0.1 all.0.1 all.1 h (subst (λ d. IsFirst d h) (sym (all.0.0.0.0 every)) was))
