-- Requests that ask for a list, which takes long and may wait.
use Rattle.std.specs.Prelude.{◌≡◌, ℕ, List, Option, None, Some, Ok}
use Rattle.serve_sockets.specs.Prelude.{Event, IsEvent}

-- the digest of the token with which an event asks for all machines or all orders
abbrev pub list_bearer : Event → Option (List ℕ)
list_bearer (Event.Machines bearer) = bearer
list_bearer (Event.Orders bearer) = bearer
list_bearer other = None

-- the octets ask for all machines or all orders, with a token of this digest
pub record AsksForList (octets digest : List ℕ) : Type 0 where
  pub what : Event
  pub event : IsEvent octets (Ok what)
  pub bearer : list_bearer what ≡ Some digest
