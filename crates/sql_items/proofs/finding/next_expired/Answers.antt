use Rattle.sql_items.proofs.ExpiryLemmas.{finds_expired}
use Rattle.sql_items.proofs.finding.next_expired.Goals as goal

pub returns-clause-asked : goal.returns-clause-asked
returns-clause-asked g c clean = c.ask_machine.ensures.asked clean _ (rw (c.number_value.ensures, c.get.ensures.seconds) (finds_expired c.args.moment))
