use Rattle.sql_schema.{specs.Words.{state, bound, if_ok}, proofs.ReadingLemmas.{same_items, items_read, items_refused}}
use Rattle.std.proofs.Common.{sym, ◌∙◌}
use Rattle.sql_schema.proofs.reading.ask_all.Goals as goal

pub returns-in-Ok-clause-asked : goal.returns-in-Ok-clause-asked
returns-in-Ok-clause-asked g c clean right it =
    items_read g.T.Table.values c.args.sql.now (bound c.args.params.now) right it (state g.S.Store c.args.conn.now) (state g.S.Store c.query_all.new.self) clean c.in-Ok.ensures.survives _
    c.in-Ok.rows.items (c.in-Ok.ensures.ok clean) c.all_items.result
    (if_ok _ _ c.all_items.result c.all_items.ensures (λ items decoded h is. same_items g.T.Table.values g.met.T.Table.single items.items (right h) (sym decoded ∙ is)))

pub returns-in-Err-clause-asked : goal.returns-in-Err-clause-asked
returns-in-Err-clause-asked g c clean right it =
    items_refused g.T.Table.values c.args.sql.now (bound c.args.params.now) right it (state g.S.Store c.args.conn.now) (state g.S.Store c.query_all.new.self) clean c.in-Err.ensures.survives _
    c.in-Err.error (c.in-Err.ensures.err clean)
