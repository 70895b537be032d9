use Rattle.sql_schema.specs.Words.{state, execute_keeps}
use Rattle.std.proofs.Common.{refl}
use Rattle.sql_schema.proofs.writing.write.Goals as goal

pub returns-in-Ok-clause-written : goal.returns-in-Ok-clause-written
returns-in-Ok-clause-written g c clean =
    let old = state g.S.Store c.args.tx.now.conn.now in
    let new = state g.S.Store c.execute.new.self.conn.now in
    record {
      gives = λ before was now makes held. makes c.args.tx.now.conn.now c.execute.new.self.conn.now held _ (c.in-Ok.ensures.runs clean (rw held.mode refl));
      mode = λ inside. (c.in-Ok.ensures.runs clean inside).1.mode;
      kept = execute_keeps old new _ _ c.execute.result (c.execute.ensures.runs clean);
    }

pub returns-in-Err-clause-written : goal.returns-in-Err-clause-written
returns-in-Err-clause-written g c clean = record {
  gives = tt;
  mode = tt;
  kept = execute_keeps (state g.S.Store c.args.tx.now.conn.now) (state g.S.Store c.execute.new.self.conn.now) _ _ c.execute.result (c.execute.ensures.runs clean);
}
