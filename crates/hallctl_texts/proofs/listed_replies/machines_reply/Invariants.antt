use Rattle.std.proofs.Common.{◌≡◌, List}
use Rattle.hall_events.specs.Reply.{ListedMachine, listing}
use Rattle.hallctl_texts.proofs.listed_replies.machines_reply.Given as goal

-- the list has some machines so far
abbrev pub invariant-loop-object : goal.invariant-loop-object
invariant-loop-object l = (machines : List ListedMachine) × (l.list ≡ listing machines)
