-- Which slot is taken for another connection.
use Rattle.std.specs.Prelude.{ℕ, ◌+◌, ◌-◌, ◌^◌, ◌<◌, ◌≤◌, min, Option, Some, None, List, length, slice_get}
use Rattle.hallview.specs.declared.connection.Connection.{Connection}

-- how early a slot is taken: a free one first, and then by when octets of its connection were last read or written
abbrev pub rank_of : Option (Option Connection) → ℕ
rank_of (Some (Some connection)) = min (connection.moved + 1) (2 ^ 64 - 1)
rank_of (Some None) = 0
rank_of None = 2 ^ 64 - 1

-- that of a slot
abbrev pub rank_at : List (Option Connection) → ℕ → ℕ
rank_at slots slot = rank_of (slice_get slots slot)

-- no slot is taken earlier than this one
abbrev pub GoesFirst : List (Option Connection) → ℕ → Type 0
GoesFirst slots slot = (k : ℕ) → k < length slots → rank_at slots slot ≤ rank_at slots k
