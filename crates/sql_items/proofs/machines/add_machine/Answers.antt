use Rattle.sql_schema.specs.{Words.{state, ExecutesInside, machine_values, execute_mode, execute_keeps, on_made}, StepLaws.of_any, declared.creating.TheConstants.ADD_MACHINE}
use Rattle.std.proofs.Common.{refl, IsTrue}
use Rattle.sql_items.{proofs.MachineLemmas.{adds_machine, row_bound}}
use Rattle.sql_items.proofs.machines.add_machine.Goals as goal

pub returns-clause-written : goal.returns-clause-written
returns-clause-written g c clean =
    let m = c.args.machine.now in
    let old = state g.S.Store c.args.tx.now.conn.now in
    let new = state g.S.Store c.execute.new.self.conn.now in
    let runs : IsTrue old.in_transaction → ExecutesInside 0 ADD_MACHINE.now (machine_values m) old new c.execute.result =
    rw (c.row_params.ensures, row_bound c.checked_params-params.result m m.version c.checked_params-params.ensures) at (c.execute.ensures.runs clean) in
    record {
      gives = of_any _ c.execute.result
          (on_made ADD_MACHINE.now (machine_values m) old new c.execute.result _ runs (λ count ran. λ before was held. adds_machine old new before was held m count (ran (rw held.mode refl))));
      mode = execute_mode old new _ _ c.execute.result runs;
      kept = execute_keeps old new _ _ c.execute.result runs;
    }
