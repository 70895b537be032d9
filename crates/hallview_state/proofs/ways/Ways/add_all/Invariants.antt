use Rattle.std.proofs.Common.{◌≡◌, fold, take}
use Rattle.hallview_state.specs.Ways.{counted}
use Rattle.hallview_state.proofs.ways.Ways.add_all.Given as goal

-- the moves so far are counted
abbrev pub invariant-loop-one : goal.invariant-loop-one
invariant-loop-one l = l.self ≡ fold counted l.fn.self (take l.one-index l.moves)
