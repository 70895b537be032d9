use Rattle.std.proofs.Common.{◌≡◌, map, take}
use Rattle.hall_events.specs.Reply.{listing}
use Rattle.hallview_state.specs.Lists.{listed_of}
use Rattle.hallview_state.proofs.reading.list_reply.Given as goal

-- the machines so far stand in the list
abbrev pub invariant-loop-one : goal.invariant-loop-one
invariant-loop-one l = l.list ≡ listing (map listed_of (take l.one-index l.machines))
