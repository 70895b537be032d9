-- The moment before which no machine expires, as rows are put and machines are looked for.
use Rattle.sql_schema.specs.Words.{RowWrite, PutMachine, Machine}
use Rattle.std.specs.Prelude.{◌+◌, ℕ, ⊤, Option, None, Some, unwrap_or}
use Rattle.hall_store.specs.Expiry.{HasNoEarlier}

-- no machine is put with an earlier deadline
abbrev pub PutsNoEarlier : ℕ → RowWrite → Type 0
PutsNoEarlier earliest (PutMachine m was) = HasNoEarlier earliest m
PutsNoEarlier earliest w = ⊤

-- the deadline of the first machine to expire; where none ever does, the moment after the last one
abbrev pub earliest_of : Option Machine → ℕ
earliest_of None = 1000000000000 + 1
earliest_of (Some m) = unwrap_or m.deadline 0
