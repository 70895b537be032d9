use Rattle.sql_schema.specs.Words.{state, earlier}
use Rattle.sql_tables.proofs.LookLemmas.{looked, stopped}
use Rattle.sql_tables.proofs.looking.look.Goals as goal

pub returns-in-Err-clause-answered : goal.returns-in-Err-clause-answered
returns-in-Err-clause-answered g c clean = stopped c.args.wanted (state g.S.Store c.args.tx.now.conn.now).now c.in-Err.fault (c.in-Err.ensures.told clean) (c.in-Err.ensures.found clean)

pub returns-in-Ok-clause-answered : goal.returns-in-Ok-clause-answered
returns-in-Ok-clause-answered g c clean =
    let before = earlier c.has_tables.ensures.survives clean in
    looked c.args.wanted (state g.S.Store c.args.tx.now.conn.now).now (state g.S.Store c.has_version.new.tx.conn.now).now c.has_tables.result (c.in-Ok.ensures.found before) (c.in-Ok.ensures.step before).gives (c.has_tables.ensures.found clean)
