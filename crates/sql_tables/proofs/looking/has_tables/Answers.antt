use Rattle.sql_schema.specs.Words.{state, earlier}
use Rattle.sql_tables.proofs.LookLemmas.{first_missing, second_found}
use Rattle.sql_tables.proofs.looking.has_tables.Goals as goal

pub returns-in-Err-clause-found : goal.returns-in-Err-clause-found
returns-in-Err-clause-found g c clean = first_missing c.args.wanted (state g.S.Store c.args.tx.now.conn.now).now c.in-Err.fault (c.in-Err.ensures.found clean)

pub returns-in-Second-clause-found : goal.returns-in-Second-clause-found
returns-in-Second-clause-found g c clean =
    let before = earlier c.understands-in-Second.ensures.survives clean in
    rw c.in-Second.is (second_found (state g.S.Store c.args.tx.now.conn.now).now (state g.S.Store c.understands.new.tx.conn.now).now c.understands-in-Second.result (c.in_default.ensures.step before).gives
    (c.in_default.ensures.found before) (c.understands-in-Second.ensures.found clean))
