use Rattle.std.proofs.Common.{All, take}
use Rattle.hallview_pages.specs.Ages.{Told}
use Rattle.hallview_pages.proofs.whole.put_ages.Given as goal

-- what is old of the halls so far is told
abbrev pub invariant-loop-hall : goal.invariant-loop-hall
invariant-loop-hall l = All (Told l.now l.page) (take l.hall-index l.state.halls.items)
