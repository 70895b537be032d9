use Rattle.sql_schema.specs.{Words.state, StepLaws.{reads_on, queried, refuses}}
use Rattle.std.proofs.Common.{◌≡◌, length, Ok, Err, arith}
use Rattle.sql_items.proofs.MachineLemmas.{sets_machine}
use Rattle.sql_items.proofs.machines.set_machine.Goals as goal

pub returns-then-len-eq1-clause-written : goal.returns-then-len-eq1-clause-written
returns-then-len-eq1-clause-written g c clean =
    let one : length c.in-Ok.rows.items ≡ 1 = omega (arith, c.len.ensures, c.in-Ok.rows.ok, c.if-len-eq1.true) in
    reads_on _ c.in-Ok.rows (Ok _)
    (queried _ _ (state g.S.Store c.args.tx.now.conn.now) (state g.S.Store c.query_all.new.self.conn.now) (λ rows. rows.items) (Ok c.in-Ok.rows) (rw c.checked_params-params.ensures at (c.in-Ok.ensures.ok clean)) tt)
    (λ shown before was held. sets_machine _ _ before was held c.args.machine.now c.args.was c.in-Ok.rows.items shown one)

pub returns-in-Ok-clause-written : goal.returns-in-Ok-clause-written
returns-in-Ok-clause-written g c clean =
    reads_on _ c.in-Ok.rows (Err _)
    (queried _ _ (state g.S.Store c.args.tx.now.conn.now) (state g.S.Store c.query_all.new.self.conn.now) (λ rows. rows.items) (Ok c.in-Ok.rows) (c.in-Ok.ensures.ok clean) tt) (λ shown. tt)

pub returns-clause-written : goal.returns-clause-written
returns-clause-written g c clean = refuses _ _ (state g.S.Store c.args.tx.now.conn.now) (state g.S.Store c.query_all.new.self.conn.now) _ _ (c.in-Err.ensures.err clean)
