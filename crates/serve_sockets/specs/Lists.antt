-- Requests for lists: which one is called next, and which open list goes for one that waits.
use Rattle.std.specs.Prelude.{◌≡◌, ◌<◌, ◌≤◌, ℕ, List, Bool, true, false, Option, None, Some, length, slice_get}
use Rattle.serve_sockets.specs.{Connection.{is_called, is_put_off, is_slow}, Table.number_at, declared.{connection.Connection.Connection, lists.Wanted.Wanted}}

module _ {T : Type 0} where
  -- whether a connection is wanted: its request is put off, or its list was called longer than a minute ago
  abbrev pub wants : Wanted → Connection T → Bool
  wants Wanted.PutOff connection = is_put_off connection
  wants (Wanted.Slow now) connection = is_slow now connection

  -- whether a slot has such a connection
  abbrev pub wants_in : Wanted → Option (Connection T) → Bool
  wants_in what None = false
  wants_in what (Some connection) = wants what connection

  -- likewise, if there is such a slot
  abbrev pub wants_held : Wanted → Option (Option (Connection T)) → Bool
  wants_held what None = false
  wants_held what (Some held) = wants_in what held

  -- likewise of a slot
  abbrev pub wants_at : Wanted → List (Option (Connection T)) → ℕ → Bool
  wants_at what slots slot = wants_held what (slice_get slots slot)

  -- the slot's connection is wanted, and none that is was accepted before it
  pub record IsFirst (what : Wanted) (slots : List (Option (Connection T))) (slot : ℕ) : Type 0 where
    pub within : slot < length slots
    pub wants : wants_at what slots slot ≡ true
    pub first : (k : ℕ) → k < length slots → wants_at what slots k ≡ true → number_at slots slot ≤ number_at slots k

  -- whether a slot has a connection whose list is open
  abbrev pub is_open : Option (Connection T) → Bool
  is_open None = false
  is_open (Some connection) = is_called connection
