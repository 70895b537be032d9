-- What a service is made of.
use Rattle.std.specs.Prelude.{◌≡◌, ◌+◌, ◌%◌, ℕ, Bool, true, false, List, Option}
use Rattle.serve_sockets.specs.{Prelude.{TcpStream, Desk}, Sockets.slots_in, Turn.{IsQuiet, IsUnavailable}, declared.{connection.Connection.Connection, service.Service.Service, sockets.Sockets.Sockets, turn.Turn.Turn}}

module _ {S : Type 0} where
  -- the desk to which what comes is handed
  abbrev pub desk_of : Service S → Desk S
  desk_of service = service.server.desk

  -- the sockets at which it is reached
  abbrev pub sockets_of : Service S → Sockets
  sockets_of service = service.sockets

  -- what each place for a connection holds
  abbrev pub connections_of : Service S → List (Option (Connection TcpStream))
  connections_of service = slots_in service.sockets

  -- how many turns there were since the last eighth one
  abbrev pub turns_of : Service S → ℕ
  turns_of service = service.turns

  -- whether its turns are quiet moments, since none has left each machine as it was
  abbrev pub is_opening_of : Service S → Bool
  is_opening_of service = service.is_opening

  -- A turn is counted. It is a quiet moment if it is an eighth one, and until one has left each machine as it was; one that is Unavailable
  -- ends that for none.
  pub record IsPaced (old new : Service S) (turn : Turn) : Type 0 where
    pub turns : turns_of new ≡ (turns_of old + 1) % 8
    pub eighth : turns_of old ≡ 7 → IsQuiet turn
    pub opening : is_opening_of old ≡ true → IsQuiet turn
    pub opened : is_opening_of old ≡ false → is_opening_of new ≡ false
    pub shut : IsUnavailable turn → is_opening_of new ≡ is_opening_of old
