-- What a turn did, and what a log says of it.
use Rattle.std.specs.Prelude.{◌≡◌, ◌⊎◌, ◌≤◌, ℕ, Bool, true, false, List, [], ◌++◌, length, Option, None, Some, slice_get}
use Rattle.hall_desk.specs.History.{Origin}
use Rattle.serve_sockets.specs.{Prelude.{Site, Hall, IsSound, IsAnswered, IsOnlyRead, TcpStream, enlists_of, site_of, store_of, HasHistory, Item, exchanges, AndCutRun, AreGiven, HasRun, IsLeft, IsSettled, Answer, Arrival, Input, Request, Stamp, Desk, Ghosts}, Connection.input_of, Own.{AreOwn, IsAnswerTo, IsGiven, NoAnswers}, Stamps.AreStamped, declared.{connection.Connection.Connection, gathering.Client.Client, turn.{Handover.Handover, Kind.Kind, Said.Said, Tick.Tick, Turn.Turn}}}

-- ---- handovers

-- what came
abbrev pub kind_of : Input → Kind
kind_of (Input.Datagram port octets) = Kind.Datagram port
kind_of (Input.Request octets) = Kind.Request
kind_of Input.Quiet = Kind.Quiet

-- the octets that came
abbrev pub octets_in : Input → List ℕ
octets_in (Input.Datagram port octets) = octets
octets_in (Input.Request octets) = octets
octets_in Input.Quiet = []

-- what is said of an answer
abbrev pub said_of : Answer → Said
said_of (Answer.Frame octets) = Said.Frame (length octets)
said_of (Answer.Response status octets) = Said.Response status (length octets)
said_of Answer.Unavailable = Said.Unavailable
said_of Answer.Silence = Said.Silence

-- whether an arrival counts as not having come
abbrev pub is_unavailable : Answer → Bool
is_unavailable Answer.Unavailable = true
is_unavailable other = false

-- a log is told of an arrival and of its answer
pub record Tells (handover : Handover) (what : Input) (a : Answer) : Type 0 where
  pub kind : handover.kind ≡ kind_of what
  pub size : handover.len ≡ length (octets_in what)
  pub said : handover.said ≡ said_of a

-- ---- turns

-- the turn handed nothing to the desk, and asked it nothing
abbrev pub HandsNothing : Turn → Type 0
HandsNothing (Turn.Handed handover) = ⊥
HandsNothing (Turn.Unsent handover) = ⊥
HandsNothing (Turn.PutOff from) = ⊥
HandsNothing turn = Unit {0}

-- the turn put a request for a list off
abbrev pub IsPutOff : Turn → Type 0
IsPutOff (Turn.PutOff from) = Unit {0}
IsPutOff turn = ⊥

-- the turn was a quiet moment
abbrev pub IsQuiet : Turn → Type 0
IsQuiet (Turn.Handed handover) = handover.kind ≡ Kind.Quiet
IsQuiet turn = ⊥

-- what the turn handed to the desk counts as not having come
abbrev pub IsUnavailable : Turn → Type 0
IsUnavailable (Turn.Handed handover) = handover.said ≡ Said.Unavailable
IsUnavailable (Turn.Unsent handover) = handover.said ≡ Said.Unavailable
IsUnavailable turn = ⊥

-- what came is a datagram
abbrev pub IsOfDatagram : Kind → Type 0
IsOfDatagram (Kind.Datagram port) = Unit {0}
IsOfDatagram other = ⊥

-- the turn handed a datagram to the desk
abbrev pub HandsDatagram : Turn → Type 0
HandsDatagram (Turn.Handed handover) = IsOfDatagram handover.kind
HandsDatagram (Turn.Unsent handover) = IsOfDatagram handover.kind
HandsDatagram turn = ⊥

-- what the connections are, before and after
module _ {S : Type 0} (g : Ghosts S) (old new : S) (site : Site) (slots slots' : List (Option (Connection TcpStream))) where
  -- An arrival was handed to the desk at a moment, with fresh octets, and answered. No connection has an answer that it hadn't before, but
  -- for one that has this answer to the request that was read from its client.
  pub record IsHanded (moment : ℕ) (fresh : List ℕ) (handover : Handover) : Type 0 where
    pub what : Input
    pub said : Answer
    pub tells : Tells handover what said
    pub answered : IsAnswered g old new site what moment fresh said
    pub own : IsAnswerTo slots slots' what said

  -- A client's request was handed to the desk with this stamp, and the client is given its own answer, in its own connection.
  pub record IsLone (stamp : Stamp) : Type 0 where
    pub client : Client
    pub was : slice_get slots client.slot ≡ Some (Some client.connection)
    pub said : Answer
    pub answered : IsAnswered g old new site (Request (input_of client.connection)) stamp.moment stamp.fresh said
    pub given : IsGiven slots' client.slot client.connection said
    pub own : IsAnswerTo slots slots' (Request (input_of client.connection)) said

  -- that, or nothing was handed over
  abbrev pub IsHandedAlone : Stamp → Type 0
  IsHandedAlone stamp = ((new ≡ old) × NoAnswers slots slots') ⊎ IsLone stamp

-- A desk serves the same place and enlists as before; and if its store took no wrong answer of a disk for a right one, it took none before.
pub record KeepsDesk {S : Type 0} (g : Ghosts S) (old new : Desk S) : Type 0 where
  pub clean : g.is_clean (store_of new) → g.is_clean (store_of old)
  pub site : site_of new ≡ site_of old
  pub enlists : enlists_of new ≡ enlists_of old
  -- where no group of changes is open, none is afterwards
  pub closed : g.is_clean (store_of new) → g.over (store_of old) None → g.over (store_of new) None

module _ {S : Type 0} (g : Ghosts S) (old new : Desk S) (slots slots' : List (Option (Connection TcpStream))) where
  -- what was handed to the desk, at a stamp's moment and with its fresh octets; where a request was put off, the hall was only read
  abbrev pub Did : Stamp → Turn → Type 0
  Did stamp (Turn.Handed handover) = g.is_clean (store_of new) → IsHanded g (store_of old) (store_of new) (site_of old) slots slots' stamp.moment stamp.fresh handover
  Did stamp (Turn.Unsent handover) = g.is_clean (store_of new) → IsHanded g (store_of old) (store_of new) (site_of old) slots slots' stamp.moment stamp.fresh handover
  Did stamp (Turn.PutOff from) = (g.is_clean (store_of new) → IsOnlyRead g (store_of old) (store_of new)) × NoAnswers slots slots'
  Did stamp turn = (new ≡ old) × NoAnswers slots slots'

  -- What a turn did with the desk. At most one arrival was handed to it; the hall was only read where the desk enlists none and a datagram came.
  pub record IsTurn (stamp : Stamp) (turn : Turn) : Type 0 where
    pub kept : KeepsDesk g old new
    pub did : Did stamp turn
    pub unlisted : enlists_of old ≡ false → HandsDatagram turn → g.is_clean (store_of new) → IsOnlyRead g (store_of old) (store_of new)

-- Turns were served: so many arrivals at most were handed to the desk, alone or together, each with the moment and the fresh octets of a
-- stamp of its own that the source gave. An answer that a connection has now, and hadn't before, is the one to the request that was read from
-- its client.
pub record AreServed {S C : Type 0} (g : Ghosts S) (gives : C → Option Tick → C → Type 0)
    (old new : S) (source source' : C) (site : Site) (most : ℕ) (slots slots' : List (Option (Connection TcpStream))) : Type 0 where
  pub arrivals : List Arrival
  pub answers : List Answer
  pub few : length arrivals ≤ most
  pub paired : length answers ≡ length arrivals
  pub stamped : AreStamped gives source arrivals source'
  pub run : (h : Hall) → g.holds old h → IsSound h → HasRun g old new site h arrivals answers
  pub own : AreOwn slots slots' arrivals answers

-- That is what came to the hall since it was new. Of a store that was settled a stop leaves the hall after some of the arrivals, or
-- after some more whose answers weren't given; and the hall at their end alone, if each was given its answer.
pub record WentOn {S C : Type 0} (g : Ghosts S) (gives : C → Option Tick → C → Type 0)
    (old new : S) (source source' : C) (site : Site) (most : ℕ) (slots slots' : List (Option (Connection TcpStream))) : Type 0 where
  pub served : AreServed g gives old new source source' site most slots slots'
  pub history : (origin : Origin) (past : List Item) → HasHistory g old origin past
      → HasHistory g new origin (past ++ exchanges site served.arrivals served.answers)
  pub settled : (origin : Origin) (past : List Item) → (was : IsSettled g old origin past) → AreGiven site was.history.end served.arrivals served.answers
      → IsSettled g new origin (past ++ exchanges site served.arrivals served.answers)
  pub stop : (origin : Origin) (past : List Item) → IsSettled g old origin past
      → IsLeft g new origin (AndCutRun past site served.arrivals served.answers)
