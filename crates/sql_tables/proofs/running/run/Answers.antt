use Rattle.sql_schema.specs.Words.{state, execute_keeps}
use Rattle.sql_tables.proofs.TransactionLemmas.{found_inside}
use Rattle.sql_tables.proofs.running.run.Goals as goal

pub returns-in-Ok-clause-ran : goal.returns-in-Ok-clause-ran
returns-in-Ok-clause-ran g c clean =
    let going = found_inside (state g.S.Store c.args.tx.now.conn.now) (λ over. (c.in-Ok.ensures.ended over).0) in
    record {
      gives = record { count = c.in-Ok.field-0; ran = (c.in-Ok.ensures.runs clean going).0 };
      mode = λ inside. (c.in-Ok.ensures.runs clean inside).1.mode;
      kept = execute_keeps (state g.S.Store c.args.tx.now.conn.now) (state g.S.Store c.execute.new.self.conn.now) _ _ c.execute.result (c.execute.ensures.runs clean);
    }
