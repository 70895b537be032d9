use Rattle.hall_sql.proofs.store.SqlStore.create.Goals as goal

pub returns-in-Ok-clause-settled : goal.returns-in-Ok-clause-settled
returns-in-Ok-clause-settled g c clean blank = c.over.ensures.settled _ (c.in-Ok.ensures.made (rw c.over.ensures.conn at clean) blank)

pub returns-in-Ok-clause-made : goal.returns-in-Ok-clause-made
returns-in-Ok-clause-made g c clean blank = rw c.over.ensures.conn (c.in-Ok.ensures.made (rw c.over.ensures.conn at clean) blank)
