-- What sockets are made of.
use Rattle.std.specs.Prelude.{ℕ, List, Option, length}
use Rattle.serve_sockets.specs.{Prelude.TcpStream, Table.slots_of, Waiting.alone_of, declared.{connection.Connection.Connection, sockets.Sockets.Sockets}}

-- what each place for a connection holds
abbrev pub slots_in : Sockets → List (Option (Connection TcpStream))
slots_in sockets = slots_of sockets.table

-- how many places there are for connections
abbrev pub places_of : Sockets → ℕ
places_of sockets = length (slots_in sockets)

-- how many of the requests that wait are answered alone next
abbrev pub alone_in : Sockets → ℕ
alone_in sockets = alone_of sockets.waiting
