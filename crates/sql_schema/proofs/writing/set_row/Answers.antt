use Rattle.sql_schema.specs.Words.{state, query_keeps, query_mode, by_count}
use Rattle.std.proofs.Common.{◌≡◌, length, arith}
use Rattle.sql_schema.proofs.writing.set_row.Goals as goal

pub returns-in-Ok-clause-written : goal.returns-in-Ok-clause-written
returns-in-Ok-clause-written g c clean add makes it =
    let old = state g.S.Store c.args.tx.now.conn.now in
    let new = state g.S.Store c.query_all.new.self.conn.now in
    let many : length c.in-Ok.rows.items ≡ c.len.result = omega (arith, c.len.ensures, c.in-Ok.rows.ok) in
    record {
      gives = λ before was held. by_count (length c.in-Ok.rows.items) c.len.result many _ _ _
          (it.puts before was c.args.tx.now.conn.now c.query_all.new.self.conn.now held c.in-Ok.rows.items (c.in-Ok.ensures.ok clean));
      mode = query_mode old new c.args.set.now _ c.in-Ok.rows.items (c.in-Ok.ensures.ok clean);
      kept = query_keeps old new c.args.set.now _ (λ rows. rows.items) c.query_all.result (c.query_all.ensures.ok clean) (c.query_all.ensures.err clean);
    }

pub returns-in-Err-clause-written : goal.returns-in-Err-clause-written
returns-in-Err-clause-written g c clean add makes it =
    let old = state g.S.Store c.args.tx.now.conn.now in
    let new = state g.S.Store c.query_all.new.self.conn.now in
    record { gives = tt; mode = tt; kept = query_keeps old new c.args.set.now _ (λ rows. rows.items) c.query_all.result (c.query_all.ensures.ok clean) (c.query_all.ensures.err clean) }
