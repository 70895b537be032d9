-- Tables as SQLite keeps them: their columns, what these refer to, and an index.
use Rattle.sql_schema.specs.Prelude.{Binary, Null, Kind, Table, Term, Column, Index, Reference, Cascade, NoAction}
use Rattle.std.specs.Prelude.{ℕ, Bool, true, false, List, [], ◌∷◌, map, Option, Some, None, codes}

-- ---- columns, of STRICT tables

abbrev pub column_of : Bool → Kind → List ℕ → Column
column_of not_null kind name = record { name = name; kind = kind; is_strict = true; not_null = not_null; default = Null; collation = Binary }

-- a column that is never NULL
abbrev pub required : Kind → List ℕ → Column
required = column_of true

-- a column that may be NULL, or the INTEGER PRIMARY KEY
abbrev pub optional : Kind → List ℕ → Column
optional = column_of false

-- ---- what a column refers to

-- REFERENCES parent (name)
abbrev pub refers_to : List ℕ → ℕ → Reference
refers_to parent cell =
    record { columns = cell ∷ []; parent = parent; parent_columns = codes "name" ∷ []; on_delete = NoAction; on_update = NoAction; is_deferred = false }

-- REFERENCES machines (id) ON DELETE CASCADE
abbrev pub belongs_to_machine : ℕ → Reference
belongs_to_machine cell =
    record { columns = cell ∷ []; parent = codes "machines"; parent_columns = codes "id" ∷ []; on_delete = Cascade; on_update = NoAction; is_deferred = false }

-- ---- tables

-- a table with these columns in this tree. Cells count the columns from 1; cell 0 is the rowid, which is the INTEGER
-- PRIMARY KEY if the table has one. Each UNIQUE has an index of its own.
abbrev pub table_of : List ℕ → ℕ → List Column → Option ℕ → List ℕ → List (List ℕ) → List Term → List Reference → Table
table_of name tree columns key primary uniques checks references = record {
  name = name;
  tree = tree;
  columns = columns;
  key = key;
  primary = primary;
  uniques = uniques;
  orders = map (λ _. record { digits = 0 }) uniques;
  checks = checks;
  references = references;
  computed = [];
  stamps = record { places = []; terms = []; formats = [] };
  is_counted = false;
}

-- its rows go by the INTEGER PRIMARY KEY, its first column
abbrev pub by_number : List ℕ → ℕ → List Column → List (List ℕ) → List Term → List Reference → Table
by_number name tree columns uniques checks references = table_of name tree columns (Some 0) (0 ∷ []) uniques checks references

-- its rows go by a hidden rowid, and its PRIMARY KEY is the first of its UNIQUE keys
abbrev pub by_name : List ℕ → ℕ → List Column → List ℕ → List (List ℕ) → List Reference → Table
by_name name tree columns primary more references = table_of name tree columns None primary (primary ∷ more) [] references

-- ---- indexes

-- an index on the column `machine`, at cell 2 of the table in this tree
abbrev pub on_machine : List ℕ → ℕ → ℕ → Index
on_machine name tree table = record { name = name; tree = tree; table = table; columns = 2 ∷ []; order = record { digits = 0 }; is_unique = false }
