use Rattle.sql_items.proofs.WipeLemmas.{lists_wipes}
use Rattle.sql_items.proofs.wipes.list_wipes.Goals as goal

pub returns-clause-asked : goal.returns-clause-asked
returns-clause-asked g c clean = c.ask_all.ensures.asked clean _ lists_wipes
