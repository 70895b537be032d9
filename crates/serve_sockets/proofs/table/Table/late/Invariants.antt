use Rattle.std.proofs.Common.{◌≡◌, ◌<◌, ◌≤◌, ℕ, false}
use Rattle.serve_sockets.specs.Table.{late_at, slots_of}
use Rattle.serve_sockets.proofs.table.Table.late.Given as goal

-- no connection of the slots that were passed is late
abbrev pub invariant-loop-slot : goal.invariant-loop-slot
invariant-loop-slot g l = (k : ℕ) → l.from ≤ k → k < l.slot → late_at (slots_of l.self) l.marks l.now k ≡ false
