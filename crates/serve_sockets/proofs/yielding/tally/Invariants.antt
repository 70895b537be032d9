use Rattle.std.proofs.Common.{◌≡◌, ◌<◌, ℕ, length, slice_index, take}
use Rattle.serve_sockets.specs.Yielding.{crowd_of}
use Rattle.serve_sockets.proofs.yielding.tally.Given as goal

-- the undecided connections of the slots that were passed are counted
abbrev pub invariant-loop-slot : goal.invariant-loop-slot
invariant-loop-slot g l = record {
  size : length l.crowds ≡ 1024;
  counted : (bucket : ℕ) → bucket < 1024 → slice_index l.crowds bucket ≡ crowd_of (take l.slot l.slots) bucket;
}
