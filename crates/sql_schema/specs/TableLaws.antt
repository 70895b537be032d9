-- Laws of tables of items, for the proofs of callers: what INSERT, UPDATE and DELETE make of their lists.
use Rattle.sql_schema.specs.{Prelude.{IsPermutation-map, list_all, list_any, AllByRecursion, length-map, Null, Int, Row, cast_row, understood, Table, Schema, Term, col, holds, eval_all, Trees, rowid, put_row, Query, overlay, Values, Insert, Update, Delete, id_in, numbered, edit_of, is_taken, are_fresh, with_rowid, put_all, without_all, row_at, taken_by, Applies, Chosen, Given, Does, Answers, value_rows, State, Executes, Shown, mode_of, statement_of, one_step, Enforced, Returning, ids_of, works, Writes, given, IsSound, IsKeyedBy, insert_by, has_key, without_key, delete_where, update_where, map_same, map-map, removes_delete, any_is_found, puts-map, deletes-map, value_cmp-Int}, Cascades.{IsIdle, NeverFollows}, CascadeStepLaws.{step_alone, insert_is_quiet, update_is_quiet}, ListLaws.{any_order, put_all-map, removes_any, puts_back}, Queries.{from_one, passing}, QueryLaws.{answer_any, items_in_order, passing_items}, Rows.{row_of, uncounted}, Statements.{IsCommandText, IsReturningText, SetsRows, only}, StatementLaws.wrote, WriteLaws.{insert_values, updates, deletes, shown_wrote, updates_showing}}
use Rattle.std.proofs.Common.{◌≡◌, ◌≢◌, ◌&&◌, ◌≤◌, ◌/◌, not, ℕ, ℤ, List, [], ◌∷◌, length, map, filter, fold, drop, slice_get, Bool, true, false, Some, Ok, refl, sym, ap, subst, ◌∙◌, int_eq, IsPermutation}

not_taken : (b : Bool) → (not b && true) ≡ true → b ≡ false
not_taken true e = absurd (let x = e in cc)
not_taken false e = refl

module _ {X : Type 0} (key : X → ℤ) (columns : X → Row) where
  abbrev row : X → Row
  row = row_of key columns

  keyed_by : (x : X) → rowid (row x) ≡ Int (key x)
  keyed_by x = refl

  taken_is : (xs : List X) (new : X) → is_taken (map row xs) (row new) ≡ list_any (λ x. int_eq (key x) (key new)) xs
  taken_is [] new = refl
  taken_is (x ∷ xs) new = rw (value_cmp-Int (key x) (key new), taken_is xs new) refl

  module _ (schema : Schema) (at : ℕ) (t : Table) (there : slice_get schema.tables at ≡ Some (uncounted t)) (old new : State) (has : old.now.schema ≡ schema)
      (xs : List X) (here : old.now.trees t.tree ≡ map row xs) where
    abbrev db : Trees
    db = old.now.trees

    abbrev after : Trees
    after = new.now.trees

    -- ---- INSERT

    module _ (sql : List ℕ) (params : Row) (terms : List Term) (width : ℕ) (text : IsCommandText schema sql (Insert at (Values terms width))) (count : ℕ) (ran : Executes sql params old new (Ok count)) where
      -- the row that is given becomes that of the new item, whose key is free
      pub inserts : (x : X) (source : Row) → value_rows params width (length terms / width) terms ≡ source ∷ [] → with_rowid Chosen (db t.tree) (cast_row (uncounted t) source) ≡ row x
          → SetsRows schema t.tree old.now new.now (map row (insert_by key xs x)) × (has_key key xs (key x) ≡ false)
      inserts x source values becomes =
          let did = wrote schema sql (Insert at (Values terms width)) text params (λ a b t c h. h) old new count has ran in
          let all = insert_values old.step_limit (mode_of old) params schema db (statement_of sql (understood schema sql)) did.0.0 new.now at t there terms width did.0.1 in
          let edit = edit_of db (uncounted t) [] Chosen 0 (value_rows params width (length terms / width) terms) in
          let one = one_step schema Enforced db after edit (insert_is_quiet schema Enforced 0 t.tree edit.news) all.writes in
          let news : edit.news ≡ row x ∷ [] =
          ap (λ rows. numbered Chosen (db t.tree) (map (λ s. cast_row (uncounted t) (drop 0 s)) rows)) values ∙ ap (λ r. r ∷ []) becomes in (
            record {
              same_schema = all.schema_is;
              sound = subst (λ s. IsSound s after) all.schema_is did.2;
              table = one.rows ∙ ap (put_all (db t.tree)) news ∙ ap (put_row (row x)) here ∙ puts-map key row keyed_by (x ∷ []) xs;
              others = one.tables;
            },
            sym (any_is_found (λ y. int_eq (key y) (key x)) xs) ∙ sym (taken_is xs x) ∙ ap (λ l. is_taken l (row x)) (sym here)
                ∙ not_taken _ (subst (λ l. are_fresh (db t.tree) l ≡ true) news one.fresh),
          )

    -- ---- the items that WHERE finds

    module _ (filters : List Term) (params : Row) (p : X → Bool) (tests : (x : X) → list_all (holds (params ∷ row x ∷ [])) filters ≡ p x) (up : IsKeyedBy key xs) (seen : overlay db [] t.tree ≡ db t.tree) where
      -- the rowids of the rows that are found, in any order, and what is left without them
      found_ids : (rows : List Row) → Answers (record { schema = schema; trees = db }) (only (from_one t.tree filters (col 1 0 ∷ []) [])) params rows
          → IsPermutation (map key (filter p xs)) (ids_of rows) × (without_all (db t.tree) (ids_of rows) ≡ map row (delete_where p xs))
      found_ids rows a =
          let it = answer_any _ t.tree filters (col 1 0 ∷ []) [] db params rows seen (a.answer Null) in
          let same = IsPermutation-map (λ r. id_in (rowid r)) _ _ (subst (IsPermutation _) (sym it.2) it.1) in
          let ids : map (λ r. id_in (rowid r)) (map (λ r. eval_all (col 1 0 ∷ []) (params ∷ r ∷ [])) (passing filters params (db t.tree))) ≡ map key (filter p xs) =
          map-map _ _ _ ∙ ap (map _) (passing_items key columns filters params p tests xs (db t.tree) here) ∙ map-map _ row _ in
          let all : IsPermutation (map key (filter p xs)) (ids_of rows) = subst (λ l. IsPermutation l (ids_of rows)) ids same in
          (all, ap (λ l. without_all l (ids_of rows)) here ∙ deletes-map key row keyed_by (ids_of rows) xs ∙ ap (map row) (removes_any key p xs up (ids_of rows) all))

      -- ---- DELETE

      module _ (sql : List ℕ) (text : IsCommandText schema sql (Delete at (only (from_one t.tree filters (col 1 0 ∷ []) [])))) (count : ℕ) (ran : Executes sql params old new (Ok count)) where
        -- the items that pass go, where no row of another table is a child of theirs
        pub deletes_alone : ((mid : Trees) (ids : List ℤ) → IsPermutation (map key (filter p xs)) ids → AllByRecursion (λ (u : Table). u.tree ≢ t.tree → mid u.tree ≡ db u.tree) schema.tables
            → AllByRecursion (IsIdle mid) (works schema Enforced 0 t.tree (map (row_at (db t.tree)) ids) []))
            → SetsRows schema t.tree old.now new.now (map row (delete_where p xs))
        deletes_alone idle =
            let did = wrote schema sql (Delete at (only (from_one t.tree filters (col 1 0 ∷ []) []))) text params (λ a b t c h. h) old new count has ran in
            let all = deletes old.step_limit (mode_of old) params schema db (statement_of sql (understood schema sql)) did.0.0 new.now at t there (only (from_one t.tree filters (col 1 0 ∷ []) [])) did.0.1 in
            let left = found_ids all.0 all.1 in
            let edit = edit_of db (uncounted t) (ids_of all.0) Given 0 [] in
            let one = step_alone schema Enforced db after edit (λ mid went. idle mid (ids_of all.0) left.0 went.tables) all.2.writes in
            record {
              same_schema = all.2.schema_is;
              sound = subst (λ s. IsSound s after) all.2.schema_is did.2;
              table = one.rows ∙ left.1;
              others = one.tables;
            }

      -- ---- UPDATE

      module _ (set : List Term) (short : length (filter p xs) ≤ 1) (stays : NeverFollows schema) (f : X → X) (keeps : (x : X) → key (f x) ≡ key x)
          (becomes : (x : X) → cast_row (uncounted t) (eval_all set (params ∷ row x ∷ [])) ≡ row (f x)) where
        abbrev q : Query
        q = from_one t.tree filters (col 1 0 ∷ set) []

        -- what the edit of an UPDATE makes of the table
        changed : (rows : List Row) → Answers (record { schema = schema; trees = db }) (only q) params rows → Writes schema Enforced db (edit_of db (uncounted t) (ids_of rows) Given 1 rows) (Ok after)
            → Applies schema Enforced db (edit_of db (uncounted t) (ids_of rows) Given 1 rows) after × (after t.tree ≡ map row (update_where p f xs))
            × (length (edit_of db (uncounted t) (ids_of rows) Given 1 rows).news ≡ length (filter p xs))
        changed rows a writes =
            let edit = edit_of db (uncounted t) (ids_of rows) Given 1 rows in
            let shown_are : rows ≡ map (λ x. eval_all (col 1 0 ∷ set) (params ∷ row x ∷ [])) (filter p xs) =
            items_in_order key columns filters params p tests _ t.tree (col 1 0 ∷ set) [] xs db here seen rows (a.answer Null) (any_order _ (filter p xs) short) in
            let ids : ids_of rows ≡ map key (filter p xs) = ap ids_of shown_are ∙ map-map (λ r. id_in (rowid r)) _ _ in
            let news : edit.news ≡ map row (map f (filter p xs)) =
            given _ _ ∙ ap (map (λ r. cast_row (uncounted t) (drop 1 r))) shown_are ∙ map-map (λ r. cast_row (uncounted t) (drop 1 r)) _ _
            ∙ map_same _ _ becomes (filter p xs) ∙ sym (map-map row f (filter p xs)) in
            let many : length edit.news ≡ length (filter p xs) = ap length news ∙ length-map _ row ∙ length-map _ f in
            let olds : length (taken_by db edit) ≡ length edit.news = length-map (ids_of rows) (row_at (db t.tree)) ∙ ap length ids ∙ length-map (filter p xs) key ∙ sym many in
            let one = one_step schema Enforced db after edit (update_is_quiet schema stays 0 t.tree (taken_by db edit) edit.news olds) writes in
            let left : without_all (db t.tree) (ids_of rows) ≡ map row (delete_where p xs) =
            ap (λ l. without_all l (ids_of rows)) here ∙ deletes-map key row keyed_by (ids_of rows) xs
            ∙ ap (λ l. map row (fold (without_key key) xs l)) ids ∙ ap (map row) (removes_delete key p xs up) in (
              one,
              one.rows ∙ ap (put_all (without_all (db t.tree) (ids_of rows))) news ∙ ap (λ l. put_all l (map row (map f (filter p xs)))) left
                  ∙ put_all-map row (map f (filter p xs)) _ ∙ puts-map key row keyed_by (map f (filter p xs)) (delete_where p xs)
                  ∙ ap (map row) (puts_back key p f keeps xs up),
              many,
            )

        -- the item that passes is changed, and keeps its key
        pub changes : (sql : List ℕ) (text : IsCommandText schema sql (Update at (only q))) (count : ℕ) → Executes sql params old new (Ok count)
            → SetsRows schema t.tree old.now new.now (map row (update_where p f xs))
        changes sql text count ran =
            let did = wrote schema sql (Update at (only q)) text params (λ a b t c h. h) old new count has ran in
            let all = updates old.step_limit (mode_of old) params schema db (statement_of sql (understood schema sql)) did.0.0 new.now at t there (only q) did.0.1 in
            let it = changed all.0 all.1 all.2.writes in
            record { same_schema = all.2.schema_is; sound = subst (λ s. IsSound s after) all.2.schema_is did.2; table = it.1; others = it.0.tables }

        -- the same, and RETURNING shows one row for the item, none where no item passes
        pub changes_showing : (sql : List ℕ) (names : List (List ℕ)) (terms : List Term) (width : ℕ) → length terms / width ≡ 1
            → (text : IsReturningText schema sql (Update at (only q)) (record { names = names; row = Values terms width })) → (rows : List Row) → Shown sql params old new rows
            → SetsRows schema t.tree old.now new.now (map row (update_where p f xs)) × (length rows ≡ length (filter p xs))
        changes_showing sql names terms width one text rows h =
            let what : Returning = record { names = names; row = Values terms width } in
            let it = shown_wrote sql params schema (Update at (only q)) what text old new rows has h in
            let did = subst (λ s. Does old.step_limit (mode_of old) params (record old.now { schema = s }) (statement_of sql (understood schema sql)) (Some what) (Update at (only q)) (Ok (it.1.tally, new.now))) has it.1.changed in
            let all = updates_showing old.step_limit (mode_of old) params schema db (statement_of sql (understood schema sql)) it.1.tally new.now at t there names terms width one (only q) did in
            let done = changed all.0 all.1 all.2.1 in (
              record { same_schema = all.2.0; sound = subst (λ s. IsSound s after) all.2.0 it.1.sound; table = done.1; others = done.0.tables },
              ap length it.2 ∙ all.3 ∙ done.2,
            )
