use Rattle.std.proofs.Common.{◌<◌, ◌≤◌, ℕ, length}
use Rattle.hallview.specs.Slots.{rank_at}
use Rattle.hallview.proofs.slots.first_to_go.Given as goal

-- of the slots that were passed, none is taken earlier than the one that was found
abbrev pub invariant-loop-slot : goal.invariant-loop-slot
invariant-loop-slot l = record {
  within : l.first < length l.slots;
  first : (k : ℕ) → k < l.slot → rank_at l.slots l.first ≤ rank_at l.slots k;
}
