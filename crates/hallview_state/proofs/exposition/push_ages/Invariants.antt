use Rattle.std.proofs.Common.{◌≡◌, ◌++◌, map, take}
use Rattle.hallview_state.specs.Told.{of_age}
use Rattle.hallview_state.proofs.exposition.push_ages.Given as goal

abbrev pub invariant-loop-hall : goal.invariant-loop-hall
invariant-loop-hall l = l.metrics ≡ l.initial.metrics ++ map (of_age l.state.began l.now) (take l.hall-index l.state.halls.items)
