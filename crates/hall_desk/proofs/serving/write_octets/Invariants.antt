use Rattle.std.{proofs.Common.{◌≡◌, ◌-◌, ◌≤◌, length, take, false}, specs.Io.KnownBytes.Appends}
use Rattle.hall_desk.specs.Prelude.{failed_of, inner_of}
use Rattle.hall_desk.proofs.serving.write_octets.Given as goal

abbrev pub invariant-loop-at : goal.invariant-loop-at
invariant-loop-at g l =
    (l.at ≤ length l.octets)
    × Appends (g.W.Write.contents (inner_of l.fn.writer)) (g.W.Write.contents (inner_of l.writer)) (take l.at l.octets)
    × (failed_of l.writer ≡ false)

abbrev pub decreases-loop-at : goal.decreases-loop-at
decreases-loop-at g l = length l.octets - l.at
