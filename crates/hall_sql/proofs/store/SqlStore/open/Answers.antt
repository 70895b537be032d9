use Rattle.hall_sql.proofs.store.SqlStore.open.Goals as goal

pub returns-clause-held : goal.returns-clause-held
returns-clause-held g c clean h spelt = c.over.ensures.held h (c.in_default.ensures.held (rw c.over.ensures.conn at clean) h spelt)

pub returns-clause-again : goal.returns-clause-again
returns-clause-again g c clean h holds =
    let after = rw c.over.ensures.conn at clean in
    let was = (c.in_default.ensures.kept after (c.in_default.ensures.running after)).0 in
    c.over.ensures.held h (c.in_default.ensures.held after h (holds was).spelt)

pub returns-clause-settled : goal.returns-clause-settled
returns-clause-settled g c clean h spelt = c.over.ensures.settled h (c.in_default.ensures.held (rw c.over.ensures.conn at clean) h spelt)

pub returns-clause-opened : goal.returns-clause-opened
returns-clause-opened g c clean h spelt = rw c.over.ensures.conn (c.in_default.ensures.held (rw c.over.ensures.conn at clean) h spelt)

pub returns-clause-answered : goal.returns-clause-answered
returns-clause-answered g c clean = c.in_default.ensures.answered (rw c.over.ensures.conn at clean)

pub returns-clause-no_hall : goal.returns-clause-no_hall
returns-clause-no_hall g c clean = c.in_default.ensures.no_hall (rw c.over.ensures.conn at clean)
