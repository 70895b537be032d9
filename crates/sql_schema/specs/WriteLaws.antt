-- Laws of INSERT, UPDATE and DELETE, for the proofs of callers: the edit of a table that they make.
use Rattle.sql_schema.specs.{Prelude.{Null, Mode, Row, understood, Table, Schema, Term, Trees, Values, Command, Insert, Update, Delete, Edit, edit_of, Chosen, Given, ids_of, Program, Returning, Database, value_rows, Answers, Edited, Written, Task, shown, Tally, Does, State, ShowsRows, command_of, statement_of}, Rows.uncounted, Statements.{IsReturningText, returning_of, formats_of}, StatementLaws.{went, same_value}}
use Rattle.std.proofs.Common.{◌≡◌, ℕ, List, [], ◌∷◌, ◌++◌, ◌/◌, length, slice_get, Option, Some, None, Ok, sym, ap, subst, subst₂, ◌∙◌, append-nil, length-append, arith}
use Rattle.sqlite.specs.{Does.Shows as ShowsEach, State.{Shown, Writes}}

-- ---- the three writes

module _ (limit : Option ℕ) (mode : Mode) (params : Row) (schema : Schema) (trees : Trees) (text : List ℕ) (tally : Tally) (after : Database) (at : ℕ) (t : Table)
    (is : slice_get schema.tables at ≡ Some (uncounted t)) where
  abbrev db : Database
  db = record { schema = schema; trees = trees }

  pub record Edits (edit : Edit) : Type 0 where
    pub schema_is : after.schema ≡ schema
    pub writes : Edited schema mode.keys trees edit (Ok after.trees)

  pub insert_values : (terms : List Term) (width : ℕ)
      → Does limit mode params db text None (Insert at (Values terms width)) (Ok (tally, after))
      → Edits (edit_of trees (uncounted t) [] Chosen 0 (value_rows params width (length terms / width) terms))
  insert_values terms width h =
      let done = went (rw is at h) in
      let now = ap (λ (p : Tally × Database). p.1) (same_value (went (went done.2).2).2) in
      let given = went done.1 in
      let rows : given.0 ≡ value_rows params width (length terms / width) terms = subst (λ p. given.0 ≡ value_rows p width (length terms / width) terms) (append-nil params) given.1.1 in
      let counter = went given.2 in
      let written = went counter.2 in
      let counted = went written.2 in
      let trees_are : done.0.trees ≡ written.0 = ap (λ (it : Written). it.trees) (same_value counted.2) ∙ same_value counted.1 in
      record {
        schema_is = ap (λ (d : Database). d.schema) now;
        writes = subst (λ all. Edited schema mode.keys trees (edit_of trees (uncounted t) [] Chosen 0 all) (Ok after.trees)) rows
            (subst (λ n. Edited schema mode.keys trees (edit_of trees (uncounted t) [] Chosen 0 given.0) (Ok n)) (sym (ap (λ (d : Database). d.trees) now ∙ trees_are)) written.1);
      }

  pub updates : (q : Program) → Does limit mode params db text None (Update at q) (Ok (tally, after))
      → (rows : List Row) × Answers db q params rows × Edits (edit_of trees (uncounted t) (ids_of rows) Given 1 rows)
  updates q h =
      let done = went (rw is at h) in
      let now = ap (λ (p : Tally × Database). p.1) (same_value (went (went done.2).2).2) in
      let given = went done.1 in
      let written = went given.2 in
      let trees_are : done.0.trees ≡ written.0 = ap (λ (it : Written). it.trees) (same_value written.2) in (
        given.0,
        given.1,
        record {
          schema_is = ap (λ (d : Database). d.schema) now;
          writes = subst (λ n. Edited schema mode.keys trees (edit_of trees (uncounted t) (ids_of given.0) Given 1 given.0) (Ok n)) (sym (ap (λ (d : Database). d.trees) now ∙ trees_are)) written.1;
        },
      )

  pub deletes : (q : Program) → Does limit mode params db text None (Delete at q) (Ok (tally, after))
      → (rows : List Row) × Answers db q params rows × Edits (edit_of trees (uncounted t) (ids_of rows) Given 0 [])
  deletes q h =
      let done = went (rw is at h) in
      let now = ap (λ (p : Tally × Database). p.1) (same_value (went (went done.2).2).2) in
      let given = went done.1 in
      let written = went given.2 in
      let trees_are : done.0.trees ≡ written.0 = ap (λ (it : Written). it.trees) (same_value written.2) in (
        given.0,
        given.1,
        record {
          schema_is = ap (λ (d : Database). d.schema) now;
          writes = subst (λ n. Edited schema mode.keys trees (edit_of trees (uncounted t) (ids_of given.0) Given 0 []) (Ok n)) (sym (ap (λ (d : Database). d.trees) now ∙ trees_are)) written.1;
        },
      )

-- ---- UPDATE with RETURNING

-- what a text with RETURNING does
pub shown_wrote : (sql : List ℕ) (params : Row) (schema : Schema) (command : Command) (what : Returning) → IsReturningText schema sql command what
    → (old new : State) (rows : List Row) → old.now.schema ≡ schema → Shown sql params old new rows
    → (count : ℕ) × (w : Writes old new (Some what) command (statement_of sql (understood schema sql)) params count) × (rows ≡ w.tally.shown)
unfolding Shown
shown_wrote sql params schema command what text old new rows has h =
    let known = sym h.1.is ∙ ap (λ s. understood s sql) has in
    let none : h.0.formats ≡ [] = ap formats_of known ∙ text.untimed in
    let some : h.0.returning ≡ Some what = ap returning_of known ∙ text.returning in
    let it : ShowsRows old new sql h.0 params rows (Some what) = subst (ShowsRows old new sql h.0 params rows) some (rw (none, append-nil params) at h.2) in
    subst₂ (λ k t. (count : ℕ) × (w : Writes old new (Some what) k t params count) × (rows ≡ w.tally.shown)) (ap command_of known ∙ text.is) (ap (statement_of sql) known) it

-- one row is shown for each that was written
module _ (task : Task) (names : List (List ℕ)) (terms : List Term) (width : ℕ) (one : length terms / width ≡ 1) (now : Trees) where
  abbrev what : Returning
  what = record { names = names; row = Values terms width }

  pub shows_each : (rows out : List Row) → ShowsEach task what now rows (Ok out) → length out ≡ length rows
  shows_each [] out h = ap length (same_value h)
  shows_each (r ∷ rows) out h =
      let first = went h in
      let others = went first.2 in
      let single : length first.0 ≡ 1 = ap length (subst (λ n. first.0 ≡ value_rows (task.params ++ Null ∷ shown task.table r) width n terms) one first.1.1) in
      let tail = shows_each rows others.0 others.1 in
      let all : length out ≡ length (first.0 ++ others.0) = ap length (same_value others.2) in
      omega (arith, single, tail, all, length-append first.0 others.0)

module _ (limit : Option ℕ) (mode : Mode) (params : Row) (schema : Schema) (trees : Trees) (text : List ℕ) (tally : Tally) (after : Database) (at : ℕ) (t : Table)
    (is : slice_get schema.tables at ≡ Some (uncounted t)) (names : List (List ℕ)) (terms : List Term) (width : ℕ) (one : length terms / width ≡ 1) where
  pub updates_showing : (q : Program) → Does limit mode params (record { schema = schema; trees = trees }) text (Some (record { names = names; row = Values terms width })) (Update at q) (Ok (tally, after))
      → (rows : List Row) × Answers (record { schema = schema; trees = trees }) q params rows × ((after.schema ≡ schema) × Edited schema mode.keys trees (edit_of trees (uncounted t) (ids_of rows) Given 1 rows) (Ok after.trees))
      × (length tally.shown ≡ length (edit_of trees (uncounted t) (ids_of rows) Given 1 rows).news)
  updates_showing q h =
      let done = went (rw is at h) in
      let ret = went (went done.2).2 in
      let each = went ret.1 in
      let both = same_value ret.2 in
      let now = ap (λ (p : Tally × Database). p.1) both in
      let shown_is : tally.shown ≡ each.0 = ap (λ (p : Tally × Database). (p.0).shown) both ∙ same_value (went each.2).2 in
      let given = went done.1 in
      let written = went given.2 in
      let trees_are : done.0.trees ≡ written.0 = ap (λ (it : Written). it.trees) (same_value written.2) in
      let rows_are = ap (λ (it : Written). it.rows) (same_value written.2) in
      let count = shows_each (record { limit = limit; keys = mode.keys; schema = schema; table = uncounted t; params = params }) names terms width one done.0.trees done.0.rows each.0 each.1 in (
        given.0,
        given.1,
        (
          ap (λ (d : Database). d.schema) now,
          subst (λ n. Edited schema mode.keys trees (edit_of trees (uncounted t) (ids_of given.0) Given 1 given.0) (Ok n)) (sym (ap (λ (d : Database). d.trees) now ∙ trees_are)) written.1,
        ),
        ap length shown_is ∙ count ∙ ap length rows_are,
      )
