-- What a client sent.
use Rattle.std.specs.Prelude.{ℕ, List}
use Rattle.serve_sockets.specs.declared.sent.Sent.{Sent}

-- its octets
abbrev pub octets_sent : Sent → List ℕ
octets_sent (Sent.Partial partial) = partial
octets_sent (Sent.Decided decided) = decided
octets_sent (Sent.Ended request) = request
