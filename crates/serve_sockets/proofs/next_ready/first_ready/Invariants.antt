use Rattle.std.proofs.Common.{◌≡◌, ◌<◌, ◌≤◌, ℕ, false, slice_get, Some}
use Rattle.serve_sockets.proofs.next_ready.first_ready.Given as goal

-- the seats that were passed are not ready
abbrev pub invariant-loop-seat : goal.invariant-loop-seat
invariant-loop-seat l = (k : ℕ) → l.from ≤ k → k < l.seat → slice_get l.ready k ≡ Some false
