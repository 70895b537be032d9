-- Rows of the table of machines, which say all of a machine but how its disks are erased.
use Rattle.sql_schema.specs.{Words.{option_to_list, Row, Trees, erase_number, at, Hall, Machine, number, machine_values, SpellHall}, Asking.Asks}
use Rattle.std.specs.Prelude.{◌≡◌, ◌++◌, ℕ, List, [], ◌∷◌, Option, Some, None, map, option_map}
use Rattle.sql_items.specs.Wipes.{erase_of}

-- a machine as its row says it
abbrev pub in_row : Machine → Machine
in_row m = record m { erase = None }

-- the machine of a row that was found, with how the hall erases its disks
abbrev pub found_whole : Hall → Option Machine → Option Machine
found_whole h found = option_map (λ (m : Machine). record m { erase = erase_of h m.id }) found

-- as a query shows a row: how the disks are erased has no column, so that a row is a machine that doesn't say it
abbrev pub row_values : Machine → Row
row_values m = machine_values m ++ map (λ e. number (erase_number e)) (option_to_list m.erase)

-- as a query shows a machine's number
abbrev pub number_values : ℕ → Row
number_values id = number id ∷ []

-- the query shows this machine of a hall, if there is one, which the hall records under its number
pub record AsksMachine (sql : List ℕ) (params : Row) (right : Hall → Option Machine) : Type 0 where
  pub asks : Asks row_values sql params (λ h. option_to_list (option_map in_row (right h)))
  pub recorded : (db : Trees) (h : Hall) → SpellHall db h → (m : Machine) → right h ≡ Some m → at h.machines m.id ≡ Some m
