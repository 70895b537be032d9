use Rattle.std.proofs.Common.{◌≡◌, ◌++◌, flat_map, take}
use Rattle.hallview_state.specs.Told.{of_took}
use Rattle.hallview_state.proofs.exposition.push_tooks.Given as goal

abbrev pub invariant-loop-hall : goal.invariant-loop-hall
invariant-loop-hall l = l.metrics ≡ l.initial.metrics ++ flat_map of_took (take l.hall-index l.halls)
