-- Rows of a table: its rowid, and then its columns.
use Rattle.sql_schema.specs.Prelude.{Int, Row, Table}
use Rattle.std.specs.Prelude.{ℤ, ◌∷◌, false, []}

-- the stored row with this key and these columns
abbrev pub row_of : {X : Type 0} → (X → ℤ) → (X → Row) → X → Row
row_of key columns x = Int (key x) ∷ columns x

-- an item of a table whose rowid no statement names
pub record Entry (X : Type 0) : Type 0 where
  pub rowid : ℤ
  pub item : X

abbrev pub rowid_of : {X : Type 0} → Entry X → ℤ
rowid_of e = e.rowid

abbrev pub item_of : {X : Type 0} → Entry X → X
item_of e = e.item

-- a table with no AUTOINCREMENT and no default that reads the time
abbrev pub uncounted : Table → Table
uncounted t = record t { is_counted = false; stamps = record { places = []; terms = []; formats = [] } }
