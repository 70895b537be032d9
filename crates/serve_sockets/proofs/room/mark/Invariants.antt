use Rattle.std.proofs.Common.{◌≡◌, length}
use Rattle.serve_sockets.specs.Ring.{ready_of}
use Rattle.serve_sockets.proofs.room.mark.Given as goal

-- there are as many seats as before
abbrev pub invariant-loop-event : goal.invariant-loop-event
invariant-loop-event l = length (ready_of l.ring) ≡ length (ready_of l.fn.ring)
