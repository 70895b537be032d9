-- The open connections, each in a slot.
use Rattle.std.specs.Prelude.{◌≡◌, ◌<◌, ◌≤◌, ◌-◌, ℕ, List, Bool, true, false, not, ◌&&◌, Option, None, Some, length, nat_le, slice_get, unwrap_or}
use Rattle.serve_sockets.specs.{Connection.{is_waiting, number_of, since_of}, declared.{connection.Connection.Connection, table.Table.Table}}

-- whether the seat of a slot is marked
abbrev pub is_marked : List Bool → ℕ → Bool
is_marked marks slot = unwrap_or (slice_get marks slot) false

module _ {T : Type 0} where
  -- what each slot holds
  abbrev pub slots_of : Table T → List (Option (Connection T))
  slots_of table = table.slots.items

  -- whether the connection of a slot was undecided, or its answer stood still, for two seconds of served time, and its request doesn't wait
  abbrev pub is_late_in : ℕ → Option (Connection T) → Bool
  is_late_in now None = false
  is_late_in now (Some connection) = not (is_waiting connection) && nat_le 2000 (now - since_of connection)

  -- likewise of what a slot holds, if there is such a slot
  abbrev pub is_late_held : ℕ → Option (Option (Connection T)) → Bool
  is_late_held now None = false
  is_late_held now (Some held) = is_late_in now held

  -- whether a slot's connection is late where its seat isn't marked: one that may give or take something is asked first
  abbrev pub late_at : List (Option (Connection T)) → List Bool → ℕ → ℕ → Bool
  late_at slots marks now slot = not (is_marked marks slot) && is_late_held now (slice_get slots slot)

  -- the slot is the first one from `from` on whose connection is late
  pub record IsNextLate (slots : List (Option (Connection T))) (marks : List Bool) (now from slot : ℕ) : Type 0 where
    pub within : slot < length slots
    pub late : late_at slots marks now slot ≡ true
    pub first : (k : ℕ) → from ≤ k → k < slot → late_at slots marks now k ≡ false

  -- no slot's connection from `from` on is late
  abbrev pub NoneLate : List (Option (Connection T)) → List Bool → ℕ → ℕ → Type 0
  NoneLate slots marks now from = (k : ℕ) → from ≤ k → k < length slots → late_at slots marks now k ≡ false

  -- the number of a slot's connection; no connection counts as the last
  abbrev pub number_in : Option (Option (Connection T)) → ℕ
  number_in (Some (Some connection)) = number_of connection
  number_in held = 18446744073709551615

  -- the how-manieth connection a slot holds
  abbrev pub number_at : List (Option (Connection T)) → ℕ → ℕ
  number_at slots slot = number_in (slice_get slots slot)
