-- Addresses that are known.
use Rattle.std.specs.{Prelude.{ℕ, ◌≡◌, List, Option, Some, option_map, IfSome, All, Bool}, List.list_any}
use Rattle.hall_types.specs.{Hall.Hall, Rows.at, Tables.{interfaces, is_among, tables_of}, declared.{change.RowWrite.RowWrite, machine.Interface.Interface}}

-- the machine that an address is recorded with
abbrev pub machine_at : Hall → List ℕ → Option ℕ
machine_at h mac = option_map (λ i. i.machine) (at h.interfaces mac)

-- an interface is as the hall has it
abbrev pub IsOf : Hall → Interface → Type 0
IsOf h i = machine_at h i.mac ≡ Some i.machine

-- all that is known is as the hall has it
abbrev pub AreOf : Hall → List (Option Interface) → Type 0
AreOf h slots = All (λ slot. IfSome slot (IsOf h)) slots

-- one of the rows changes interfaces
abbrev pub changes_interfaces : List RowWrite → Bool
changes_interfaces rows = list_any (λ row. is_among interfaces (tables_of row)) rows
