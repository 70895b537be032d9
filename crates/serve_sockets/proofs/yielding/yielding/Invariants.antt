use Rattle.std.proofs.Common.{◌<◌, ℕ, length}
use Rattle.serve_sockets.specs.Yielding.{IsAhead}
use Rattle.serve_sockets.proofs.yielding.yielding.Given as goal

-- of the slots that were passed, none goes before the one that was found
abbrev pub invariant-loop-slot : goal.invariant-loop-slot
invariant-loop-slot g l = record {
  within : l.first < length l.slots;
  ahead : (k : ℕ) → k < l.slot → IsAhead l.slots l.first k;
}
