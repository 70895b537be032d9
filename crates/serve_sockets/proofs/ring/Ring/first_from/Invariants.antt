use Rattle.std.proofs.Common.{◌*◌}
use Rattle.serve_sockets.specs.{Marks.AreClear, Ring.ready_of}
use Rattle.serve_sockets.proofs.ring.Ring.first_from.Given as goal

-- no seat of the blocks that were passed is ready
abbrev pub invariant-loop-block : goal.invariant-loop-block
invariant-loop-block l = AreClear (ready_of l.self) l.from (64 * l.block)
