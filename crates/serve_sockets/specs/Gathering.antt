-- Requests that are answered together.
use Rattle.std.specs.{Prelude.{◌≡◌, ◌≢◌, ◌⊎◌, ⊤, ◌<◌, ◌≤◌, ℕ, List, [], ◌∷◌, Option, None, Some, length, map, slice_get, take}, List.AllByRecursion}
use Rattle.serve_sockets.specs.{Prelude.{Site, Hall, IsSound, HasRun, TcpStream, Answer, Arrival, Input, Request, Ghosts}, Connection.input_of, Own.{IsBack, IsGiven}, Stamps.AreStamped, declared.{connection.Connection.Connection, gathering.{Client.Client, Gathered.Gathered}, turn.Tick.Tick}}

-- each arrival is the request of the client in its place
abbrev pub AreOf : List Client → List Arrival → Type 0
AreOf clients arrivals = map (λ arrival. arrival.input) arrivals ≡ map (λ client. Request (input_of client.connection)) clients

-- no two clients have one slot
abbrev pub AreApart : List Client → Type 0
AreApart [] = ⊤
AreApart (client ∷ clients) = AllByRecursion (λ other. other.slot ≢ client.slot) clients × AreApart clients

module _ (slots : List (Option (Connection TcpStream))) where
  -- each client's connection is in its slot
  abbrev pub AreIn : List Client → Type 0
  AreIn clients = AllByRecursion (λ client. slice_get slots client.slot ≡ Some (Some client.connection)) clients

  -- each client's slot is free
  abbrev pub AreOut : List Client → Type 0
  AreOut clients = AllByRecursion (λ client. slice_get slots client.slot ≡ Some None) clients

  -- each client's connection is in its slot as it was, or there was no memory for that, and it was closed
  abbrev pub AreBack : List Client → Type 0
  AreBack clients = AllByRecursion (λ client. IsBack slots client.slot client.connection) clients

  -- each client has its own answer, in its own connection
  abbrev pub AreHeld : List Client → List Answer → Type 0
  AreHeld [] [] = ⊤
  AreHeld (client ∷ clients) (a ∷ answers) = IsGiven slots client.slot client.connection a × AreHeld clients answers
  AreHeld clients answers = ⊥

  -- Each of the first clients has its own answer in its own connection, in turn, and the others wait on.
  abbrev pub AreGiven : List Client → List Answer → Type 0
  AreGiven clients [] = AreBack clients
  AreGiven [] (a ∷ answers) = ⊥
  AreGiven (client ∷ clients) (a ∷ answers) = IsGiven slots client.slot client.connection a × AreGiven clients answers

-- what the slots hold but those of clients
abbrev pub OthersStay : List Client → List (Option (Connection TcpStream)) → List (Option (Connection TcpStream)) → Type 0
OthersStay clients slots slots' = (k : ℕ) → AllByRecursion (λ client. client.slot ≢ k) clients → slice_get slots' k ≡ slice_get slots k

-- At most so many requests, with the stamps that the source gave in between. Their clients' connections were taken out of their slots.
pub record IsGathered {C : Type 0} (gives : C → Option Tick → C → Type 0) (source source' : C) (slots slots' : List (Option (Connection TcpStream))) (most : ℕ) (gathered : Gathered) : Type 0 where
  pub stamped : AreStamped gives source gathered.arrivals.items source'
  pub few : length gathered.arrivals.items ≤ most
  pub paired : AreOf gathered.clients.items gathered.arrivals.items
  pub were : AreIn slots gathered.clients.items
  pub are : AreOut slots' gathered.clients.items
  pub apart : AreApart gathered.clients.items

-- what came is a request
abbrev pub IsOfRequest : Input → Type 0
IsOfRequest (Request octets) = Unit {0}
IsOfRequest other = ⊥

abbrev pub AreRequests : List Arrival → Type 0
AreRequests arrivals = AllByRecursion (λ arrival. IsOfRequest arrival.input) arrivals

module _ {S : Type 0} (g : Ghosts S) (old new : S) (site : Site) (arrivals : List Arrival) where
  -- the arrivals were handed to the desk, each with this answer
  abbrev pub IsHandedAs : List Answer → Type 0
  IsHandedAs answers = (h : Hall) → g.holds old h → IsSound h → HasRun g old new site h arrivals answers

-- The first of the arrivals were handed to the desk together. Each client that is answered is given its own answer, and the others wait on.
-- Where the commit failed, or the first one couldn't be answered with others, none is answered, and all are handed over alone next.
pub record AreHanded {S : Type 0} (g : Ghosts S) (old new : S) (site : Site) (gathered : Gathered) (slots slots' : List (Option (Connection TcpStream))) (alone : ℕ) : Type 0 where
  pub answers : List Answer
  pub few : length answers ≤ length gathered.arrivals.items
  pub handed : IsHandedAs g old new site (take (length answers) gathered.arrivals.items) answers
  pub given : List Answer
  pub all : ((given ≡ answers) × (0 < length given)) ⊎ ((given ≡ []) × (alone ≡ length gathered.clients.items))
  pub clients : AreGiven slots' gathered.clients.items given
  pub others : OthersStay gathered.clients.items slots slots'
