use Rattle.sql_schema.specs.{Words.state, StepLaws.queried}
use Rattle.std.proofs.Common.{[]}
use Rattle.sql_tables.proofs.running.ask.Goals as goal

pub returns-clause-asked : goal.returns-clause-asked
returns-clause-asked g c clean =
    queried c.args.sql.now [] (state g.S.Store c.args.tx.now.conn.now) (state g.S.Store c.query_all.new.self.conn.now) (λ rows. rows.items) c.query_all.result (c.query_all.ensures.ok clean) (c.query_all.ensures.err clean)
