-- Laws of statements, for the proofs of callers: what a refusal leaves, what a statement whose text is known does, and CREATE.
use Rattle.sql_schema.specs.{Prelude.{Error, Mode, Row, understood, Table, Schema, Trees, Command, CreateTable, CreateIndex, Database, IsDatabase, Tally, Does, lacks_sequence, created, indexed, next_tree, KeepsRows, table_defined_by, index_defined_by, State, Executes, ExecutesInside, IsUnchanged, IsTooLate, KeepsCommit, FailsToShow, RunsCommand, Runs, Shows, CommitsShowing, Survives, ShowsRows, mode_of, survives_weaker, never_commits, IsPlain, statement_of, runs_as, IsSound, Compiled, Returning, Index}, Statements.{IsBack, IsCommandText, IsKeptText, MakesDatabase}}
use Rattle.std.proofs.Common.{◌≡◌, ◌⊎◌, inl, inr, ℕ, List, [], slice_get, true, false, cond, Option, Some, None, Ok, Err, Result, IfOk, IfErr, OnOk, IsTrue, sym, ap, subst, ◌∙◌}
use Rattle.sqlite.specs.State.{FailsToQuery, IsNotRun, Writes as Wrote, Shown}

-- ---- refusals

command_back : (old new : State) (sql : List ℕ) (c : Compiled) (params : Row) (e : Error) → RunsCommand old new sql c params (Err e) → IsBack old new
command_back old new sql c params e (inl h) = inl h.1
command_back old new sql c params e (inr h) = inr h.3

-- a text that isn't run leaves all as it was, or goes back
pub not_run_back : (old new : State) (sql : List ℕ) (e : Error) → ((params : Row) → IsNotRun old new sql params e) → IsBack old new
unfolding IsNotRun
not_run_back old new sql e not_run = elim (not_run []) [ inl h ↦ inl h.1 | inr h ↦ inr h.3 ]

shown_back : (old new : State) (sql : List ℕ) (c : Compiled) (params : Row) (e : Error) (what : Option Returning) → FailsToShow old new sql c params e what → IsBack old new
shown_back old new sql c params e None h = inl h.3
shown_back old new sql c params e (Some what) h = command_back old new sql c params e h

pub query_refused : (sql : List ℕ) (params : Row) (old new : State) (e : Error) → FailsToQuery sql params old new e → IsBack old new
unfolding FailsToQuery IsNotRun
query_refused sql params old new e (inl (inl h)) = inl h.1
query_refused sql params old new e (inl (inr h)) = inr h.3
query_refused sql params old new e (inr h) = shown_back old new sql h.0 _ e _ h.2

-- a part that gave a value did not stop on the way
pub went : {B E R : Type 0} {b : B} {Stops : E → Type 0} → ((stop : E) × Stops stop × (Ok b ≡ Err stop)) ⊎ R → R
went (inl stopped) = absurd (let e = stopped.2 in cc)
went (inr on) = on

pub same_value : {B E : Type 0} {a b : B} → ◌≡◌ {A = Result B E} (Ok a) (Ok b) → a ≡ b
same_value e = cc

-- ---- a statement whose text is known

module _ (schema : Schema) (sql : List ℕ) (command : Command) (text : IsCommandText schema sql command) (params : Row) where
  -- it makes the database that is seen afterwards, which lists its schema
  pub wrote : ((old new : State) (text : List ℕ) (count : ℕ) → Runs old new None command text params count → Wrote old new None command text params count)
      → (old new : State) (count : ℕ) → old.now.schema ≡ schema → Executes sql params old new (Ok count)
      → MakesDatabase schema sql None command params old new.now × Shows old new new.now (cond old.in_transaction old.committed new.now) old.in_transaction × IsDatabase new.now
  wrote form old new count has h =
      let w = form old new _ count (runs_as sql params old new schema has command text.is text.plain count h) in
      ((w.tally, subst (λ s. Does old.step_limit (mode_of old) params (record old.now { schema = s }) (statement_of sql (understood schema sql)) None command (Ok (w.tally, new.now))) has w.changed), w.shown, w.sound)

-- ---- a query whose text is known

module _ (sql : List ℕ) (params : Row) (schema : Schema) (plain : IsPlain (understood schema sql)) where
  -- it changes nothing
  pub shown_same : (old new : State) (rows : List Row) → old.now.schema ≡ schema → Shown sql params old new rows → IsUnchanged old new
  unfolding Shown
  shown_same old new rows has h =
      let known = sym h.1.is ∙ ap (λ s. understood s sql) has in
      let bare = subst IsPlain (sym known) plain in
      (rw bare.0 at h.2).3

  -- and commits nothing
  pub query_survives : (old new : State) → old.now.schema ≡ schema → Survives old new (CommitsShowing sql params old) → Survives old new (λ _. ⊥)
  query_survives old new has = survives_weaker old new _ _ (λ _ db. never_commits sql params old db (subst (λ s. IsPlain (understood s sql)) (sym has) plain))

-- ---- CREATE TABLE

creates : (limit : Option ℕ) (mode : Mode) (params : Row) (schema : Schema) (trees : Trees) (text : List ℕ) (tally : Tally) (after : Database) (t : Table)
    → table_defined_by text ≡ Ok t → lacks_sequence (created schema t) ≡ false
    → Does limit mode params (record { schema = schema; trees = trees }) text None CreateTable (Ok (tally, after))
    → (after.schema ≡ created schema t) × (after.trees (next_tree schema) ≡ []) × KeepsRows schema.tables trees after.trees
creates limit mode params schema trees text tally after t defined plain h =
    let all = went h in
    let first = went all.1 in
    let made = first.1 in
    let both : Ok made.table ≡ Ok t = sym made.defined ∙ defined in
    let same : made.table ≡ t = cc in
    let schema_is : first.0.schema ≡ created schema t = made.is ∙ ap (created schema) same in
    let unlisted : lacks_sequence first.0.schema ≡ false = ap lacks_sequence schema_is ∙ plain in
    let now : after ≡ first.0 = ap (λ (p : Tally × Database). p.1) (same_value all.2) ∙ same_value (rw unlisted at first.2) in
    (ap (λ (d : Database). d.schema) now ∙ schema_is, ap (λ (d : Database). d.trees (next_tree schema)) now ∙ made.empty, subst (λ (d : Database). KeepsRows schema.tables trees d.trees) (sym now) made.others)

-- the text makes this table, empty and after the tables of the schema
pub makes_table : (schema next : Schema) (sql : List ℕ) (t : Table) → IsKeptText schema sql CreateTable → table_defined_by sql ≡ Ok t → created schema t ≡ next → lacks_sequence next ≡ false
    → (old new : State) (count : ℕ) → old.now.schema ≡ schema → Executes sql [] old new (Ok count)
    → (new.now.schema ≡ next) × (new.now.trees (next_tree schema) ≡ []) × KeepsRows schema.tables old.now.trees new.now.trees × IsSound next new.now.trees
makes_table schema next sql t text defined is unlisted old new count has ran =
    let did = wrote schema sql CreateTable text.text [] (λ a b t c h. h) old new count has ran in
    let it = creates old.step_limit (mode_of old) [] schema old.now.trees sql did.0.0 new.now t defined (ap lacks_sequence is ∙ unlisted)
    (subst (λ x. Does old.step_limit (mode_of old) [] (record old.now { schema = schema }) x None CreateTable (Ok (did.0.0, new.now))) text.whole did.0.1) in
    let schema_is : new.now.schema ≡ next = it.0 ∙ is in
    (schema_is, it.1, it.2, subst (λ s. IsSound s new.now.trees) schema_is did.2)

-- ---- CREATE INDEX

indexes : (limit : Option ℕ) (mode : Mode) (params : Row) (schema : Schema) (trees : Trees) (text : List ℕ) (tally : Tally) (after : Database) (at : ℕ) (t : Table) (i : Index)
    → slice_get schema.tables at ≡ Some t → index_defined_by t text ≡ Ok i
    → Does limit mode params (record { schema = schema; trees = trees }) text None (CreateIndex at) (Ok (tally, after))
    → (after.schema ≡ indexed schema t i) × KeepsRows schema.tables trees after.trees
indexes limit mode params schema trees text tally after at t i is defined h =
    let all = went (rw is at h) in
    let made = all.1 in
    let both : Ok made.index ≡ Ok i = sym made.defined ∙ defined in
    let same : made.index ≡ i = cc in
    let now : after ≡ all.0 = ap (λ (p : Tally × Database). p.1) (same_value all.2) in
    (ap (λ (d : Database). d.schema) now ∙ made.is ∙ ap (indexed schema t) same, subst (λ (d : Database). KeepsRows schema.tables trees d.trees) (sym now) made.rows)

-- the text makes this index on the table at this position
pub makes_index : (schema next : Schema) (sql : List ℕ) (at : ℕ) (t : Table) (i : Index) → IsKeptText schema sql (CreateIndex at) → slice_get schema.tables at ≡ Some t
    → index_defined_by t sql ≡ Ok i → indexed schema t i ≡ next → (old new : State) (count : ℕ) → old.now.schema ≡ schema → Executes sql [] old new (Ok count)
    → (new.now.schema ≡ next) × KeepsRows schema.tables old.now.trees new.now.trees × IsSound next new.now.trees
makes_index schema next sql at t i text there defined is old new count has ran =
    let did = wrote schema sql (CreateIndex at) text.text [] (λ a b t c h. h) old new count has ran in
    let it = indexes old.step_limit (mode_of old) [] schema old.now.trees sql did.0.0 new.now at t i there defined
    (subst (λ x. Does old.step_limit (mode_of old) [] (record old.now { schema = schema }) x None (CreateIndex at) (Ok (did.0.0, new.now))) text.whole did.0.1) in
    let schema_is : new.now.schema ≡ next = it.0 ∙ is in
    (schema_is, it.1, subst (λ s. IsSound s new.now.trees) schema_is did.2)

-- ---- from a call inside a transaction to what it keeps

back_keeps : (old new : State) → IsBack old new → KeepsCommit old new
back_keeps old new (inl same) = record { was_open = λ _. same.0.was_open; committed = λ _. same.0.committed_is }
back_keeps old new (inr back) = record { was_open = back.was_open; committed = λ live. (back.undone live).1 }

-- a statement inside a transaction commits nothing
pub execute_keeps : (old new : State) (sql : List ℕ) (params : Row) (r : Result ℕ Error) → (IsTrue old.in_transaction → ExecutesInside 0 sql params old new r) → IsTrue old.in_transaction → KeepsCommit old new
execute_keeps old new sql params (Ok count) ran inside = let it = ran inside in record { was_open = λ _. it.1.was_open; committed = λ _. it.1.committed_is }
execute_keeps old new sql params (Err e) ran inside = elim (ran inside) [ inl failed ↦ back_keeps old new failed.1 | inr ends ↦ back_keeps old new (inl ends.2) ]

-- a statement inside a transaction that is carried out leaves it going on
pub execute_mode : (old new : State) (sql : List ℕ) (params : Row) (r : Result ℕ Error) → (IsTrue old.in_transaction → ExecutesInside 0 sql params old new r)
    → OnOk r (IsTrue old.in_transaction → new.in_transaction ≡ true)
execute_mode old new sql params (Ok count) ran = λ inside. (ran inside).1.mode
execute_mode old new sql params (Err e) ran = tt

shows_keeps : (old new : State) (sql : List ℕ) (c : Compiled) (params : Row) (rows : List Row) (what : Option Returning) → ShowsRows old new sql c params rows what → IsTrue old.in_transaction → KeepsCommit old new
shows_keeps old new sql c params rows None h inside = back_keeps old new (inl h.3)
shows_keeps old new sql c params rows (Some what) h inside = record { was_open = λ _. h.1.shown.was_open; committed = λ _. rw inside at h.1.shown.committed_is }

-- a query inside a transaction commits nothing
pub query_keeps : {X : Type 0} (old new : State) (sql : List ℕ) (params : Row) (rows_of : X → List Row) (r : Result X Error) → IfOk r (λ x. Shown sql params old new (rows_of x))
    → IfErr r (λ e. FailsToQuery sql params old new e ⊎ IsTooLate sql params old new e) → IsTrue old.in_transaction → KeepsCommit old new
unfolding Shown
query_keeps old new sql params rows_of (Ok x) ok err inside = shows_keeps old new sql ok.0 _ (rows_of x) _ ok.2 inside
query_keeps old new sql params rows_of (Err e) ok (inl fails) inside = back_keeps old new (query_refused sql params old new e fails)
query_keeps old new sql params rows_of (Err e) ok (inr late) inside = back_keeps old new (inl late.5)

shows_mode : (old new : State) (sql : List ℕ) (c : Compiled) (params : Row) (rows : List Row) (what : Option Returning) → ShowsRows old new sql c params rows what → IsTrue old.in_transaction → new.in_transaction ≡ true
shows_mode old new sql c params rows None h inside = rw inside at h.3.0.mode
shows_mode old new sql c params rows (Some what) h inside = rw inside at h.1.shown.mode

-- a query that is answered leaves the transaction going on
pub query_mode : (old new : State) (sql : List ℕ) (params : Row) (rows : List Row) → Shown sql params old new rows → IsTrue old.in_transaction → new.in_transaction ≡ true
unfolding Shown
query_mode old new sql params rows ok inside = shows_mode old new sql ok.0 _ rows _ ok.2 inside

-- ---- from a result to a clause

pub on_made : (sql : List ℕ) (params : Row) (old new : State) (r : Result ℕ Error) (Q : Type 0) → (IsTrue old.in_transaction → ExecutesInside 0 sql params old new r)
    → ((count : ℕ) → (IsTrue old.in_transaction → ExecutesInside 0 sql params old new (Ok count)) → Q) → OnOk r Q
on_made sql params old new (Ok count) Q ran gives = gives count ran
on_made sql params old new (Err e) Q ran gives = tt

pub if_ok : {X E : Type 0} (P Q : X → Type 0) (r : Result X E) → IfOk r P → ((x : X) → P x → Q x) → IfOk r Q
if_ok P Q (Ok x) p f = f x p
if_ok P Q (Err e) p f = tt
