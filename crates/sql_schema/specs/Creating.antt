-- The texts that make the tables and indexes of a hall, and those that read its tables.
use Rattle.sql_schema.specs.{Prelude.{created, indexed, CreateTable, CreateIndex, table_defined_by, index_defined_by, lacks_sequence, Schema, Table, Index, Key, Term}, Queries.{cell, from_one}, Statements.{IsKeptText, IsQueryText}, TableOf.cells_from, Described.hall_schema}
use Rattle.std.specs.Prelude.{◌≡◌, ◌⊎◌, ⊤, ℕ, List, [], ◌∷◌, Ok, Option, Some, None, false, length, drop, slice_get}

-- over the first schema the text defines this table, and the second schema has it too
pub record MakesTable (before : Schema) (sql : List ℕ) (t : Table) (after : Schema) : Type 0 where
  pub text : IsKeptText before sql CreateTable
  pub defined : table_defined_by sql ≡ Ok (record t { tree = 0 })
  pub next : created before (record t { tree = 0 }) ≡ after
  pub unlisted : lacks_sequence after ≡ false

-- over the first schema the text defines this index on the table at this position, and the second schema has it too
pub record MakesIndex (before : Schema) (sql : List ℕ) (at : ℕ) (t : Table) (i : Index) (after : Schema) : Type 0 where
  pub text : IsKeptText before sql (CreateIndex at)
  pub there : slice_get before.tables at ≡ Some t
  pub defined : index_defined_by t sql ≡ Ok (record i { tree = 0 })
  pub next : indexed before t (record i { tree = 0 }) ≡ after

-- the text makes a table or an index
abbrev pub MakesOne : Schema → List ℕ → Schema → Type 0
MakesOne before sql after =
    ((t : Table) × MakesTable before sql t after) ⊎ ((place : ℕ) × (t : Table) × (i : Index) × MakesIndex before sql place t i after)

-- the texts, one after another, make the second schema of the first
abbrev pub MakesAll : Schema → List (List ℕ) → Schema → Type 0
MakesAll before [] after = before ≡ after
MakesAll before (sql ∷ more) after = (mid : Schema) × MakesOne before sql mid × MakesAll mid more after

-- SELECT of all columns of a table
abbrev pub all_cells : Table → List Term
all_cells t = by t.key
  where
    by : Option ℕ → List Term
    by None = cells_from 1 (length t.columns)
    by (Some key) = cell 0 ∷ cells_from 2 (length (drop 1 t.columns))

-- over the schema of a hall the text shows all columns of the rows of this table that pass
pub record Reads (sql : List ℕ) (t : Table) : Type 0 where
  pub filters : List Term
  pub order : List (Term × Key)
  pub text : IsQueryText hall_schema sql (from_one t.tree filters (all_cells t) order)

-- the texts read these tables, one each, in their order
abbrev pub ReadsEach : List (List ℕ) → List Table → Type 0
ReadsEach [] [] = ⊤
ReadsEach (sql ∷ texts) (t ∷ tables) = Reads sql t × ReadsEach texts tables
ReadsEach texts tables = ⊥
