-- The tables of a new hall while they are made, and what a refusal and a stop leave.
use Rattle.sql_schema.specs.Words.{AllByRecursion, list_any, is_used, Database, Schema, State, Table, Trees, Hall, new_hall, second, how_many, no_rows, MakesAll, IsHeld, all_tables, Counts, HallRows, SpellHall, is_in, no_schema}
use Rattle.std.specs.Prelude.{◌≡◌, ◌⊎◌, ℕ, Bool, List, [], Result, OnOk, IsTrue}

-- a table, an index or a view has the name of one of a hall's tables
abbrev pub is_a_name_taken : Schema → Bool
is_a_name_taken schema = list_any (λ (t : Table). is_used schema t.name) all_tables

-- there is no table, no index and no view
abbrev pub IsBlank : State → Type 0
IsBlank s = s.now.schema ≡ no_schema

-- the database has this schema, and its tables have no row
pub record HasNoRows (db : Database) (made : Schema) : Type 0 where
  pub schema : db.schema ≡ made
  pub empty : AllByRecursion (λ (t : Table). db.trees t.tree ≡ []) made.tables

-- the tables have no row, and the texts make this schema of theirs
abbrev pub CanMake : Database → List (List ℕ) → Schema → Type 0
CanMake db texts after = (before : Schema) × HasNoRows db before × MakesAll before texts after

-- a hall that has nothing yet, not even its pool and its admin
abbrev pub bare_hall : Hall
bare_hall = record (new_hall second [] []) { operators = no_rows; pools = no_rows }

-- how many machines of a hall each pool has in each status
abbrev pub counts_of : Hall → Counts
counts_of h = λ pool status. how_many (is_in pool status) h.machines

-- the rows of a hall, while no machine has its kind of erasing
abbrev pub without_kinds : Hall → HallRows
without_kinds h = record { hall = h; counts = counts_of h; wipes = no_rows }

-- while the connection is open, all that it shows is committed
abbrev pub IsFlat : State → Type 0
IsFlat s = IsTrue s.is_open → s.now ≡ s.committed

-- while the connection is open it shows what it showed, and nothing was committed
abbrev pub KeepsTables : State → State → Type 0
KeepsTables old new = IsTrue new.is_open → IsTrue old.is_open × (new.now ≡ old.now) × (new.committed ≡ old.committed)

-- a stop leaves what it left before, or tables that spell this hall
abbrev pub MayLeaveBesides : Hall → State → State → Type 0
MayLeaveBesides h old new = (db : Trees) → new.may_leave db → old.may_leave db ⊎ SpellHall db h

-- the tables were to be made at once, beside what there is: all of them or none, also where the program is stopped
pub record IsWhole (old new : State) {Y E : Type 0} (r : Result Y E) : Type 0 where
  pub after : Trees
  pub shown : OnOk r (new.now.trees ≡ after)
  pub crash : (db : Trees) → new.may_leave db → old.may_leave db ⊎ (db ≡ after)

-- all tables of this hall were to be made at once: they are, or a stop may leave them
pub record IsMade (old new : State) {Y E : Type 0} (r : Result Y E) (h : Hall) : Type 0 where
  pub held : OnOk r (IsHeld new h)
  pub crash : MayLeaveBesides h old new
