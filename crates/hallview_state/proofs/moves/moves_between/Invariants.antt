use Rattle.std.{proofs.Common.{All, ◌≡◌, filter_map, take}, specs.List.Sorted.{IsNonDecreasingBy}}
use Rattle.hallview_state.specs.Moves.{IsMove, move_of}
use Rattle.hallview_state.proofs.moves.moves_between.Given as goal

-- each move so far is one, and these are those of the machines so far
abbrev pub invariant-loop-one : goal.invariant-loop-one
invariant-loop-one l =
    All (IsMove l.before l.after l.at) l.moves.items
    × (IsNonDecreasingBy (λ one. one.machine.id) l.before → l.moves.items ≡ filter_map (move_of l.before l.at) (take l.one-index l.after))
