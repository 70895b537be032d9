use Rattle.std.proofs.Common.{◌≡◌, ◌++◌, map, take}
use Rattle.hallview_state.specs.Told.{of_up}
use Rattle.hallview_state.proofs.exposition.push_ups.Given as goal

abbrev pub invariant-loop-hall : goal.invariant-loop-hall
invariant-loop-hall l = l.metrics ≡ l.initial.metrics ++ map of_up (take l.hall-index l.halls)
