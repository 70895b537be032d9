-- How the disks of machines are erased.
use Rattle.sql_schema.specs.Words.{filter_map, Row, erase_number, Rows, numbers, at, put, gone, listed, Hall, Erase, Machine, Wipe, number, HallRows, wipe_of}
use Rattle.std.specs.Prelude.{ℕ, List, [], ◌∷◌, Option, Some, None, map, option_and_then}
use Rattle.sql_items.specs.declared.wipes.Erasing.{Erasing}

-- this machine's disks are to be erased so, or not at all
abbrev pub wipe_set : ℕ → Option Erase → Rows numbers Wipe → Rows numbers Wipe
wipe_set id None wipes = gone id wipes
wipe_set id (Some erase) wipes = put id (record { machine = id; erase = erase }) wipes

-- the rows where this machine's disks are to be erased so, or not at all
abbrev pub with_wipe : HallRows → ℕ → Option Erase → HallRows
with_wipe c id erase = record c { wipes = wipe_set id erase c.wipes }

-- how the disks of the machine with this number are erased, if they are to be
abbrev pub erase_of : Hall → ℕ → Option Erase
erase_of h id = option_and_then (λ (m : Machine). m.erase) (at h.machines id)

-- as a query shows the row
abbrev pub erasing_values : Erasing → Row
erasing_values e = number e.machine ∷ number (erase_number e.erase) ∷ []

-- what a row of the table is read as
abbrev pub erasing : Wipe → Erasing
erasing w = record { machine = w.machine; erase = w.erase }

-- the machines whose disks are to be erased, by number
abbrev pub erasings : Hall → List Erasing
erasings h = map erasing (filter_map wipe_of (listed h.machines))
