-- What is written for each report on a hall.
use Rattle.std.specs.Prelude.{◌≡◌, ℕ, List, Some, None}
use Rattle.desk_operations.specs.Prelude.{Hall, IsNumber, IsHallText, machine_text, order_text, What}
use Rattle.hall_report.specs.declared.values.What.TheVariants as what

-- the text is the report on the hall
abbrev pub IsReport : What → Hall → List ℕ → Type 0
IsReport what.Hall h text = IsHallText h text
IsReport what.Orders h text = text ≡ order_text h
IsReport (what.Machine id) h text = machine_text h id ≡ Some text

-- the machine that the report is about isn't there; a number that is none is no machine's
abbrev pub IsMissing : What → Hall → Type 0
IsMissing (what.Machine id) h = IsNumber id → machine_text h id ≡ None
IsMissing other h = ⊥
