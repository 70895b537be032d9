use Rattle.life_cycle.specs.EnteringLaws.{rescue_begins, rescue_keeps}
use Rattle.life_cycle.proofs.laws.rescue_returns.Goals as goal

pub returns-clause-begins : goal.returns-clause-begins
returns-clause-begins c = rescue_begins

pub returns-clause-keeps : goal.returns-clause-keeps
returns-clause-keeps c = rescue_keeps
