-- Answers of desks, as they were received.
use Rattle.std.specs.Prelude.{ℕ, List, drop}
use Rattle.hallview_state.specs.declared.received.Received.{Received}

-- the body of an answer
abbrev pub body_of : Received → List ℕ
body_of received = drop received.start received.octets.items
