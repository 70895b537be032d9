use Rattle.sql_schema.{specs.Words.{state, bound, if_ok}, proofs.ReadingLemmas.{items_read, items_refused}}
use Rattle.sql_schema.proofs.reading.ask_first.Goals as goal

pub returns-in-Ok-clause-asked : goal.returns-in-Ok-clause-asked
returns-in-Ok-clause-asked g c clean right it =
    items_read g.T.Table.values c.args.sql.now (bound c.args.params.now) right it (state g.S.Store c.args.conn.now) (state g.S.Store c.query_all.new.self) clean c.in-Ok.ensures.survives _
    c.in-Ok.rows.items (c.in-Ok.ensures.ok clean) c.first_item.result (if_ok _ _ c.first_item.result c.first_item.ensures (λ found first h is. first (right h) is))

pub returns-in-Err-clause-asked : goal.returns-in-Err-clause-asked
returns-in-Err-clause-asked g c clean right it =
    items_refused g.T.Table.values c.args.sql.now (bound c.args.params.now) right it (state g.S.Store c.args.conn.now) (state g.S.Store c.query_all.new.self) clean c.in-Err.ensures.survives _
    c.in-Err.error (c.in-Err.ensures.err clean)
