-- A table of a hall: what it stores, and what its statements say.
use Rattle.sql_schema.specs.{Prelude.{next_rowid, Value, Null, Text, Row, Table, Term, Query, lit, Key, IsKeyedBy, Keys, Rows, numbers, listed, StandUnder}, Columns.number, HallRows.HallRows, Queries.{cell, parameter, equals, from_one, rising}, Rows.{Entry, row_of, rowid_of, item_of}}
use Rattle.std.proofs.Common.{refl, ◌≡◌, ℕ, ℤ, zero, suc, pos, List, [], ◌∷◌, map, drop, IsPermutation}

-- ---- what a table stores

-- A table that stores each row once, as an entry that has a rowid and an item, in the order of rowids, while each row stands under its own key.
pub record IsKept {K X E : Type 0} {keys : Keys K} (rowid : E → ℤ) (item : E → X) (key_of : X → K) (columns : X → Row) (stored : List Row) (rows : Rows keys X) : Type 0 where
  pub entries : List E
  pub spelt : stored ≡ map (row_of rowid (λ e. columns (item e))) entries
  pub keyed : IsKeyedBy rowid entries
  pub same : IsPermutation (listed rows) (map item entries)
  pub under : StandUnder key_of rows

-- with an INTEGER PRIMARY KEY: an item is its own entry, and its number is the rowid
abbrev pub IsNumbered : {X : Type 0} → (X → ℕ) → (X → Row) → List Row → Rows numbers X → Type 0
IsNumbered number_of columns = IsKept (λ x. pos (number_of x)) (λ x. x) number_of columns

-- with a rowid that no statement names
abbrev pub IsNamed : {K X : Type 0} {keys : Keys K} → (X → K) → (X → Row) → List Row → Rows keys X → Type 0
IsNamed key_of columns = IsKept rowid_of item_of key_of columns

-- ---- the columns of a statement, from this one on

abbrev pub cells_from : ℕ → ℕ → List Term
cells_from at zero = []
cells_from at (suc more) = cell at ∷ cells_from (suc at) more

abbrev pub parameters_from : ℕ → ℕ → List Term
parameters_from at zero = []
parameters_from at (suc more) = parameter at ∷ parameters_from (suc at) more

-- WHERE the columns equal the parameters
abbrev pub equal_from : ℕ → ℕ → List Term
equal_from at zero = []
equal_from at (suc more) = equals (suc at) at ∷ equal_from (suc at) more

-- ORDER BY the columns
abbrev pub rising_from : ℕ → ℕ → List (Term × Key)
rising_from at zero = []
rising_from at (suc more) = rising at ∷ rising_from (suc at) more

-- the values of a key that is a text and another part; fewer or more parts are no key, and their values are NULL, which equals nothing
abbrev pub pair_values : (List ℕ → Value) → List (List ℕ) → Row
pair_values second (a ∷ b ∷ []) = Text a ∷ second b ∷ []
pair_values second _ = Null ∷ Null ∷ []

-- ---- a table

pub record TableOf {K : Type 0} (keys : Keys K) (X E : Type 0) : Type 0 where
  -- which table it is of the schema, and its place there
  pub table : Table
  pub place : ℕ
  -- an entry's rowid and item, an item's key, and its columns after the rowid
  pub rowid : E → ℤ
  pub item : E → X
  pub key_of : X → K
  pub columns : X → Row
  -- the entry of a new item among stored rows, and the row that an INSERT of the item gives
  pub entry : List Row → X → E
  pub is_item : (stored : List Row) (x : X) → item (entry stored x) ≡ x
  pub source : X → Row
  -- an item as a query shows it and a statement is given it, and a key as a statement is given it
  pub values_of : X → Row
  pub key_values : K → Row
  -- WHERE the key is the given one, SELECT of all columns, ORDER BY the key, also where it is given, and VALUES of an INSERT
  pub matches : List Term
  pub shown : List Term
  pub by_key : List (Term × Key)
  pub one_by : List (Term × Key)
  pub given : List Term
  -- its rows, and all rows with others in their place
  pub rows : HallRows → Rows keys X
  pub with_rows : HallRows → Rows keys X → HallRows

-- an entry as it is stored
abbrev pub kept_row : {K X E : Type 0} {keys : Keys K} → TableOf keys X E → E → Row
kept_row t = row_of t.rowid (λ e. t.columns (t.item e))

-- a table with an INTEGER PRIMARY KEY, its first column, and so many columns more
abbrev pub numbered : {X : Type 0} → Table → ℕ → (X → ℕ) → (X → Row) → ℕ → (HallRows → Rows numbers X) → (HallRows → Rows numbers X → HallRows) → TableOf numbers X X
numbered table place number_of columns more rows with_rows = record {
  table = table;
  place = place;
  rowid = λ x. pos (number_of x);
  item = λ x. x;
  key_of = number_of;
  columns = columns;
  entry = λ stored x. x;
  is_item = λ stored x. refl;
  source = λ x. number (number_of x) ∷ columns x;
  values_of = λ x. number (number_of x) ∷ drop 1 (columns x);
  key_values = λ n. number n ∷ [];
  matches = equals 0 0 ∷ [];
  shown = cell 0 ∷ cells_from 2 more;
  by_key = rising 0 ∷ [];
  one_by = [];
  given = parameter 0 ∷ lit Null ∷ parameters_from 1 more;
  rows = rows;
  with_rows = with_rows;
}

-- a table whose rowid no statement names, and whose first columns are its key, of so many columns
abbrev pub named : {K X : Type 0} {keys : Keys K} → Table → ℕ → (X → K) → (K → Row) → ℕ → (X → Row) → ℕ → (HallRows → Rows keys X) → (HallRows → Rows keys X → HallRows) → TableOf keys X (Entry X)
named table place key_of key_values parts columns width rows with_rows = record {
  table = table;
  place = place;
  rowid = rowid_of;
  item = item_of;
  key_of = key_of;
  columns = columns;
  entry = λ stored x. record { rowid = next_rowid stored; item = x };
  is_item = λ stored x. refl;
  source = λ x. Null ∷ columns x;
  values_of = columns;
  key_values = key_values;
  matches = equal_from 0 parts;
  shown = cells_from 1 width;
  by_key = rising_from 1 parts;
  one_by = rising_from 1 parts;
  given = lit Null ∷ parameters_from 0 width;
  rows = rows;
  with_rows = with_rows;
}

-- ---- among the tables of a hall

-- A table at its place in the schema: what it holds of a hall's rows, which stored rows are that, and the texts that name all its columns: one
-- makes it, one reads rows of it, by this query, and one adds a row, by these VALUES.
pub record HallTable : Type 1 where
  pub table : Table
  pub place : ℕ
  pub Held : Type 0
  pub held : HallRows → Held
  pub with_held : HallRows → Held → HallRows
  pub stores : List Row → Held → Type 0
  pub create : List ℕ
  pub find : List ℕ
  pub query : Query
  pub add : List ℕ
  pub given : List Term

-- a table that is described, with its texts
abbrev pub of_table : {K X E : Type 0} {keys : Keys K} → TableOf keys X E → List ℕ → List ℕ → List ℕ → HallTable
of_table {X = X} {keys = keys} t create find add = record {
  table = t.table;
  place = t.place;
  Held = Rows keys X;
  held = t.rows;
  with_held = t.with_rows;
  stores = IsKept t.rowid t.item t.key_of t.columns;
  create = create;
  find = find;
  query = from_one t.table.tree t.matches t.shown t.one_by;
  add = add;
  given = t.given;
}
