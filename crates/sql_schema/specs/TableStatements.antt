-- What has to be known of a table, so that all is known of its statements.
use Rattle.sql_schema.specs.Words.{list_all, cast_row, Command, Insert, Update, Delete, with_rowid, Database, value_rows, Row, overlay, Query, Chosen, Values, Term, holds, eval_all, Trees, Key, Keys, Rows, put, gone, rows_where, same_key, IsKept, TableOf, kept_row, HallRows, cell, from_one, uncounted, AreTables, Spells, SetsRows, only, hall_schema}
use Rattle.std.specs.Prelude.{◌≡◌, ◌/◌, Bool, not, List, [], ◌∷◌, ◌++◌, length, Some, slice_get}

module _ {K X E : Type 0} {keys : Keys K} (t : TableOf keys X E) where
  -- SELECT of all columns, of the rows that pass
  abbrev pub shows_query : List Term → List (Term × Key) → Query
  shows_query filters order = from_one t.table.tree filters t.shown order

  -- INSERT of all columns
  abbrev pub add_command : Command
  add_command = Insert t.place (Values t.given (length t.given))

  -- UPDATE of the row with a key
  abbrev pub set_command : List Term → Command
  set_command changed = Update t.place (only (from_one t.table.tree t.matches (cell 0 ∷ changed) []))

  -- DELETE of the rows that pass
  abbrev pub remove_command : List Term → Command
  remove_command filters = Delete t.place (only (from_one t.table.tree filters (cell 0 ∷ []) []))

  -- the rows with an item, new or in place of the one that has its key
  abbrev pub with_item : HallRows → X → HallRows
  with_item c x = t.with_rows c (put (t.key_of x) x (t.rows c))

  -- without the one with a key
  abbrev pub without_item : HallRows → K → HallRows
  without_item c key = t.with_rows c (gone key (t.rows c))

  -- without those that pass
  abbrev pub without_where : HallRows → (X → Bool) → HallRows
  without_where c p = t.with_rows c (rows_where (λ x. not (p x)) (t.rows c))

-- it is this table of a hall
pub record IsTable {K X E : Type 0} {keys : Keys K} (t : TableOf keys X E) : Type 0 where
  pub there : slice_get hall_schema.tables t.place ≡ Some (uncounted t.table)
  pub spelt : (db : Trees) (c : HallRows) → AreTables db c → IsKept t.rowid t.item t.key_of t.columns (db t.table.tree) (t.rows c)
  pub sets : (old new : Database) (c : HallRows) → Spells old c → (stored : List Row) (x : Rows keys X) → SetsRows hall_schema t.table.tree old new stored
      → IsKept t.rowid t.item t.key_of t.columns stored x → Spells new (t.with_rows c x)
  pub same : (c : HallRows) → t.with_rows c (t.rows c) ≡ c
  pub seen : (db : Trees) → overlay db [] t.table.tree ≡ db t.table.tree
  -- what the terms of its statements give
  pub tests : (key : K) (others : Row) (e : E) → list_all (holds ((t.key_values key ++ others) ∷ kept_row t e ∷ [])) t.matches ≡ same_key keys (t.key_of (t.item e)) key
  pub shows : (params : Row) (e : E) → eval_all t.shown (params ∷ kept_row t e ∷ []) ≡ t.values_of (t.item e)
  pub stores : (x : X) → value_rows (t.values_of x) (length t.given) (length t.given / length t.given) t.given ≡ t.source x ∷ []
  pub becomes : (stored : List Row) (x : X) → with_rowid Chosen stored (cast_row (uncounted t.table) (t.source x)) ≡ kept_row t (t.entry stored x)
