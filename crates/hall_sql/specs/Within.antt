-- Which hall a transaction has, while its rows are written, and what the write of a row makes of it.
use Rattle.sql_schema.specs.{Words.{State, Hall, written, RowWrite, IsWithin, HallRows, AreRowsOf}, Steps.IsStep}
use Rattle.std.specs.Prelude.{Result}
use Rattle.hall_store.specs.{Rules.Keeps, Versions.HasVersion}

-- inside a transaction: the hall as the transaction sees it, with its counts and its kinds of erasing, over the hall that was there before it
pub record IsWithinHall (s : State) (before h : Hall) : Type 0 where
  pub hall_rows : HallRows
  pub within : IsWithin s before hall_rows
  pub agrees : AreRowsOf h hall_rows

-- a step that writes a row: where it keeps the tables' rules, the hall is as it is with the row, which had the version that was wanted
abbrev pub IsRowWritten : State → State → {Y E : Type 0} → Result Y E → RowWrite → Type 0
IsRowWritten old new r w = IsStep old new r (λ _. (before h : Hall) → IsWithinHall old before h → Keeps w h → IsWithinHall new before (written w h) × HasVersion w h)
