use Rattle.std.proofs.Common.{◌≡◌, count_by, take}
use Rattle.serve_sockets.specs.Lists.{is_open}
use Rattle.serve_sockets.proofs.lists.open_lists.Given as goal

-- the open lists of the slots that were passed are counted
abbrev pub invariant-loop-slot : goal.invariant-loop-slot
invariant-loop-slot g l = l.count ≡ count_by is_open (take l.slot l.slots)
