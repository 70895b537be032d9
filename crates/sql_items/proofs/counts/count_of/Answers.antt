use Rattle.sql_schema.specs.{Words.{state, status_number, if_ok}, StepLaws.{reads_on, queried, refuses}}
use Rattle.sql_items.proofs.CountLemmas.{finds_count}
use Rattle.std.proofs.Common.{Ok}
use Rattle.sql_items.proofs.counts.count_of.Goals as goal

pub returns-in-Ok-clause-counted : goal.returns-in-Ok-clause-counted
returns-in-Ok-clause-counted g c clean =
    let old = state g.S.Store c.args.tx.now.conn.now in
    let new = state g.S.Store c.query_all.new.self.conn.now in
    reads_on _ c.in-Ok.rows c.count_in.result
    (queried _ _ old new (λ rows. rows.items) (Ok c.in-Ok.rows) (rw (c.name_value.ensures, c.small_value.ensures, c.number.ensures.number) at (c.in-Ok.ensures.ok clean)) tt)
    (λ shown. if_ok _ _ c.count_in.result c.count_in.ensures.count (λ n is before rows held.
    let it = finds_count c.args.pool.now (status_number c.args.status) old new c.in-Ok.rows.items shown before rows held in
    (is _ it.0, it.1)))

pub returns-in-Err-clause-counted : goal.returns-in-Err-clause-counted
returns-in-Err-clause-counted g c clean = refuses _ _ (state g.S.Store c.args.tx.now.conn.now) (state g.S.Store c.query_all.new.self.conn.now) _ _ (c.in-Err.ensures.err clean)
