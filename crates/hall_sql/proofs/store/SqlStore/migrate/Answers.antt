use Rattle.hall_sql.proofs.store.SqlStore.migrate.Goals as goal

pub returns-in-Ok-clause-held : goal.returns-in-Ok-clause-held
returns-in-Ok-clause-held g c clean h become = c.over.ensures.held h (c.in-Ok.ensures.held (rw c.over.ensures.conn at clean) h become)

pub returns-in-Ok-clause-settled : goal.returns-in-Ok-clause-settled
returns-in-Ok-clause-settled g c clean h become = c.over.ensures.settled h (c.in-Ok.ensures.held (rw c.over.ensures.conn at clean) h become)

pub returns-in-Ok-clause-opened : goal.returns-in-Ok-clause-opened
returns-in-Ok-clause-opened g c clean h become = rw c.over.ensures.conn (c.in-Ok.ensures.held (rw c.over.ensures.conn at clean) h become)

pub returns-in-Ok-clause-crash : goal.returns-in-Ok-clause-crash
returns-in-Ok-clause-crash g c clean h become = rw c.over.ensures.conn (c.migrate_tables.ensures.crash (rw c.over.ensures.conn at clean) h become)
