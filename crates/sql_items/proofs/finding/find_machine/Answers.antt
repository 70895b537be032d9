use Rattle.sql_items.proofs.FindingLemmas.{finds_machine}
use Rattle.sql_items.proofs.finding.find_machine.Goals as goal

pub returns-clause-asked : goal.returns-clause-asked
returns-clause-asked g c clean = c.ask_machine.ensures.asked clean _ (rw (c.number_value.ensures, c.get.ensures.number) (finds_machine c.args.id))
