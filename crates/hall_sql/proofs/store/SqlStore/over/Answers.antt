use Rattle.sql_schema.specs.Words.{settles, state}
use Rattle.hall_sql.proofs.store.SqlStore.over.Goals as goal

pub returns-clause-settled : goal.returns-clause-settled
returns-clause-settled g c h held = settles (state g.S.Store c.args.conn) h (λ db live may. g.met.S.Store.settled c.args.conn.store db live may) held
