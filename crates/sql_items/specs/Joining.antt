-- Rows of machines joined with their kinds of erasing, both in the order of the machines' numbers.
use Rattle.sql_schema.specs.Words.{Erase, Machine}
use Rattle.std.specs.Prelude.{ℕ, ◌+◌, ◌==◌, if◌then◌else◌, List, [], ◌∷◌, Option, Some, None, slice_get}
use Rattle.sql_items.specs.declared.wipes.Erasing.{Erasing}

-- the kind of erasing that was found, if it is of the machine with this number
abbrev pub kind_of : Option Erasing → ℕ → Option Erase
kind_of None id = None
kind_of (Some e) id = if e.machine == id then Some e.erase else None

-- the kind of erasing at this place, if it is of the machine with this number
abbrev pub kind_at : List Erasing → ℕ → ℕ → Option Erase
kind_at es at id = kind_of (slice_get es at) id

-- the place after a kind of erasing that was a machine's
abbrev pub past : ℕ → Option Erase → ℕ
past at None = at
past at (Some erase) = at + 1

-- each machine with the kind of erasing at the place where the walk is, if that is its own
abbrev pub joined : List Erasing → ℕ → List Machine → List Machine
joined es at [] = []
joined es at (m ∷ ms) = (record m { erase = kind_at es at m.id }) ∷ joined es (past at (kind_at es at m.id)) ms
