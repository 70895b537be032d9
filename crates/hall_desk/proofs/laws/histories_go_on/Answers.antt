use Rattle.hall_desk.specs.RunLaws.{goes_on, item_on}
use Rattle.hall_desk.proofs.laws.histories_go_on.Goals as goal

pub returns-clause-runs : goal.returns-clause-runs
returns-clause-runs c = goes_on

pub returns-clause-item : goal.returns-clause-item
returns-clause-item c = item_on
