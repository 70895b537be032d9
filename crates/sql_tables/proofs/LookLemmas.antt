-- Looks at the tables of a file, inside a transaction that is undone.
use Rattle.sql_schema.specs.{Words.{AllByRecursion, Null, Int, Error, SqlInputError, Row, Database, reads_listing, Schema, State, IsUnchanged, store_error, Outlines, IsPlain, Command, Compiled, CompileError, Returning, append-nil, cell, column, command_of, items_in_order}, Steps.IsStep, StepLaws.{fails, queried}, declared.creating.TheConstants.FIND_NUMBERS}
use Rattle.std.proofs.Common.{◌≡◌, ◌≢◌, inl, inr, ℕ, ℤ, pos, List, [], ◌∷◌, Ok, Err, Result, Option, None, Bool, true, false, true≢false, refl, sym, ap, subst, ◌∙◌, ◌↔◌, if◌then◌else◌}
use Rattle.sqlite_resolve.specs.{Compile.compiled, Lowering.{Checked, and_then}, declared.error.CompileError.TheVariants.NoSuchTable}
use Rattle.sqlite_tied.specs.Compute.{everything}
use Rattle.sqlite.specs.{Effect.Reads, Listing.{IsSourceOf, if_select, listing_schema, misses_table, understood}, State.{FailsToQuery, IsNotRun, Shown}}
use Rattle.sqlite_trees.specs.declared.error.StoreError.TheVariants as fault
use Rattle.sql_tables.specs.{declared.{fault.OpenFault.{OpenFault, TheVariants.{NotAHall, OtherVersion, Unavailable}}, looking.Wanted.{Wanted, TheVariants.{First, Second}}}, Opening.{AreFound, AreUnderstood, HasTables, IsAnswerFor, IsFoundBy, IsOneRow, IsSchemaRow, IsUnderstood, IsVersionOf, NamesSchema, SaysSchema, ShowsRows, first_rows, second_rows, wanted_number, wanted_rows}}

-- ---- whether texts are understood

-- an error in the text says that it isn't understood
not_understood : (old new : State) (sql : List ℕ) (e : Error) (f : _) → e ≡ SqlInputError f → IsNotRun old new sql [] e → IsUnderstood old.now.schema sql → ⊥
unfolding IsNotRun
not_understood old new sql e f is not_run known = elim not_run [
  | inl (inl it, same) ↦ let e1 = it.1 in let e2 = known.1 in absurd cc
  | inl (inr it, same) ↦ elim it.2 [
    | inl many ↦ let e1 = many.1 in absurd cc
    | inr (inl given) ↦ let e1 = given.1 in absurd cc
    | inr (inr clock) ↦ let e1 = clock.1 in absurd cc
  ]
  | inr failed ↦ by_cause failed.0 failed.1
]
  where
    by_cause : (k : _) → e ≡ store_error k → ⊥
    by_cause fault.OutOfMemory h = absurd cc
    by_cause other h = absurd cc

is_understood : (schema : Schema) (sql : List ℕ) (s : _) → Outlines (understood schema sql) s → IsUnderstood schema sql
is_understood schema sql s it = by (understood schema sql) refl it
  where
    by : (r : Result Compiled CompileError) → understood schema sql ≡ r → Outlines r s → IsUnderstood schema sql
    by (Ok c) is outlines = (c, is)
    by (Err e) is outlines = absurd outlines

pub understood_step : (old new : State) → IsUnchanged old new → IsStep old new {Y = Unit {0}} {E = OpenFault} (Ok tt) (λ _. new.now ≡ old.now)
understood_step old new same = record { gives = same.0.now_is; mode = λ inside. same.0.mode ∙ inside; kept = λ inside. record { was_open = λ _. same.0.was_open; committed = λ _. same.0.committed_is } }

pub not_run_step : (old new : State) (sql : List ℕ) (e : Error) (why : OpenFault) → ((params : Row) → IsNotRun old new sql params e) → (A : Unit {0} → Type 0) → IsStep old new (Err why) A
unfolding FailsToQuery
not_run_step old new sql e why not_run A = fails A e why (queried {X = List Row} sql [] old new (λ rows. rows) (Err e) tt (inl (inl (not_run []))))

-- several texts, of which these are left, where one more of them is asked for
module _ (db : Database) (old : State) (all left more : List (List ℕ)) (sql : List ℕ) (same : old.now ≡ db) (is : left ≡ sql ∷ more) (so_far : AreUnderstood db.schema all ↔ AreUnderstood db.schema left) where
  pub one_understood : (s : _) → Outlines (understood old.now.schema sql) s → AreUnderstood db.schema all ↔ AreUnderstood db.schema more
  one_understood s it = (
    λ known. (subst (AreUnderstood db.schema) is (so_far.0 known)).1,
    λ known. so_far.1 (subst (AreUnderstood db.schema) (sym is) (subst (λ (d : Database). IsUnderstood d.schema sql) same (is_understood old.now.schema sql s it), known)),
  )

  pub one_missing : (new : State) (e : Error) (why : OpenFault) → ((params : Row) → IsNotRun old new sql params e) → (why ≡ NotAHall → (f : _) × (e ≡ SqlInputError f)) → why ≢ OtherVersion → AreFound all db (Err why)
  one_missing new e NotAHall not_run missing never = λ known.
      let it = missing refl in
      not_understood old new sql e it.0 it.1 (not_run []) (subst (λ (d : Database). IsUnderstood d.schema sql) (sym same) (subst (AreUnderstood db.schema) is (so_far.0 known)).0)
  one_missing new e OtherVersion not_run missing never = never refl
  one_missing new e Unavailable not_run missing never = tt

-- the tables of the first schema, and then that of kinds of erasing
pub first_missing : (wanted : Wanted) (db : Database) (e : OpenFault) → AreFound first_rows db (Err e) → AreFound (wanted_rows wanted) db (Err e)
first_missing First db e found = found
first_missing Second db NotAHall missing = λ known. missing known.1
first_missing Second db OtherVersion missing = missing
first_missing Second db Unavailable missing = tt

pub second_found : (db now : Database) (r : Result (Unit {0}) OpenFault) → now ≡ db → AreUnderstood db.schema first_rows → AreFound second_rows now r → AreFound (wanted_rows Second) db r
second_found db now (Ok done) same first found = ((subst (λ (d : Database). AreUnderstood d.schema second_rows) same found).0, first)
second_found db now (Err NotAHall) same first missing = λ known. missing (subst (λ (d : Database). AreUnderstood d.schema second_rows) (sym same) (known.0, tt))
second_found db now (Err OtherVersion) same first missing = missing
second_found db now (Err Unavailable) same first missing = tt

-- ---- the number of the schema

-- a query whose text is known is understood
pub compiled_of : (r : Result Compiled CompileError) → IsPlain r → (c : Compiled) × (r ≡ Ok c)
compiled_of (Ok c) plain = (c, refl)
compiled_of (Err e) plain = absurd plain

pub all_compiled : (schema : Schema) (texts : List (List ℕ)) → AllByRecursion (λ sql. IsPlain (understood schema sql)) texts → AreUnderstood schema texts
all_compiled schema [] plain = tt
all_compiled schema (sql ∷ more) plain = (compiled_of _ plain.0, all_compiled schema more plain.1)

pub not_found : (Names : ℤ → Type 0) (wanted : Wanted) (db : Database) (e : OpenFault) → AreFound (FIND_NUMBERS.now ∷ []) db (Err e) → IsFoundBy Names wanted (Err e)
not_found Names wanted db OtherVersion missing = absurd missing
not_found Names wanted db e missing = tt

pub none_found : (Names : ℤ → Type 0) (wanted : Wanted) (e : OpenFault) → e ≢ OtherVersion → IsFoundBy Names wanted (Err e)
none_found Names wanted OtherVersion other = absurd (other refl)
none_found Names wanted e other = tt

-- ---- what the query of the numbers shows

abbrev pub IsBare : Compiled → Type 0
IsBare c = (c.returning ≡ None) × (c.formats ≡ [])

-- whatever its command is, the text returns nothing and wants no time
bare_by : (make : List (List ℕ) × (Command × Option Returning) → Compiled) → ((plan : List (List ℕ) × (Command × Option Returning)) → ((make plan).returning ≡ plan.1.1) × ((make plan).formats ≡ plan.0))
    → (k : Checked Command) (c : Compiled)
    → and_then (and_then (and_then k (λ x. Ok (x, None))) (λ found. Ok ([], found))) (λ plan. Ok (make plan)) ≡ Ok c → IsBare c
bare_by make made (Ok x) c e = let is : make ([], (x, None)) ≡ c = cc in subst IsBare is (made ([], (x, None)))
bare_by make made (Err f) c e = absurd cc

compiled_bare : (schema : Schema) (c : Compiled) → compiled schema FIND_NUMBERS.now ≡ Ok c → IsBare c
unfolding compiled everything
compiled_bare schema c e = bare_by _ (λ plan. (refl, refl)) _ c e

-- no table of SQLite's own is called `hall`
none_listed : if_select (compiled listing_schema FIND_NUMBERS.now) ≡ Err NoSuchTable
unfolding compiled everything listing_schema
none_listed = refl

-- over each schema where it is understood
bare : (schema : Schema) (c : Compiled) → understood schema FIND_NUMBERS.now ≡ Ok c → IsBare c × (reads_listing schema FIND_NUMBERS.now ≡ false)
unfolding understood
bare schema c e = by (compiled schema FIND_NUMBERS.now) refl e
  where
    by : (r : Checked Compiled) → compiled schema FIND_NUMBERS.now ≡ r → (if misses_table r then if_select (compiled listing_schema FIND_NUMBERS.now) else r) ≡ Ok c → IsBare c × (misses_table r ≡ false)
    by (Ok d) is same = let one : d ≡ c = cc in (subst IsBare one (compiled_bare schema d is), refl)
    by (Err NoSuchTable) is same = let no : Err NoSuchTable ≡ Ok c = sym none_listed ∙ same in absurd cc
    by (Err f) is same = absurd cc

pub shown_rows : (old new : State) (rows : List Row) → Shown FIND_NUMBERS.now [] old new rows → ShowsRows old.now FIND_NUMBERS.now rows × IsUnchanged old new
unfolding Shown
shown_rows old new rows h =
    let known = bare old.now.schema h.0 h.1.is in
    let it = rw (known.0.0, known.0.1, append-nil []) at h.2 in
    let db : it.0 ≡ old.now = subst (λ b. IsSourceOf b old.now it.0) known.1 it.1 in
    (record { query = h.0; means = h.1.is; shown = subst (λ d. Reads h.0.command d [] rows) db it.2 }, it.3)

-- the row that is asked of a `hall` as this program makes it
pub schema_row : (db : Database) (n : ℤ) (rows : List Row) → SaysSchema db n → ShowsRows db FIND_NUMBERS.now rows → IsSchemaRow n rows
schema_row db n rows says shown =
    let is = sym (ap command_of shown.means) ∙ says.reads.is in (
      says.last.0,
      says.last.1,
      says.last.2,
      items_in_order (λ (x : Row). pos 1) (λ x. x) [] [] (λ x. true) (λ x. refl) _ 0 (cell 2 ∷ cell 3 ∷ cell 4 ∷ cell 5 ∷ []) []
          ((Null ∷ Int n ∷ Int says.last.0 ∷ Int says.last.1 ∷ Int says.last.2 ∷ []) ∷ []) db.trees says.last.3 refl rows
          ((subst (λ k. Reads k db [] rows) is shown.shown).answer Null) (tt, tt),
    )

-- it names no other number
pub one_schema : (db : Database) (n m : ℤ) → SaysSchema db n → NamesSchema db m → n ≡ m
one_schema db n m says names =
    let row = schema_row db n names.rows says names.shown in
    let both : names.one.row ∷ [] ≡ (Int n ∷ Int row.0 ∷ Int row.1 ∷ Int row.2 ∷ []) ∷ [] = sym names.one.only ∙ row.3 in
    let same : names.one.row ≡ Int n ∷ Int row.0 ∷ Int row.1 ∷ Int row.2 ∷ [] = cc in
    let number : Int n ≡ Int m = sym (ap (λ r. column r 0) same) ∙ names.one.number in
    cc

-- what was found in the rows that were shown
pub found_in : (wanted : Wanted) (db : Database) (rows : List Row) (r : Result (Unit {0}) OpenFault) → ShowsRows db FIND_NUMBERS.now rows → IsFoundBy (IsOneRow rows) wanted r → IsFoundBy (NamesSchema db) wanted r
found_in wanted db rows (Ok done) shown one = record { rows = rows; shown = shown; one = one }
found_in wanted db rows (Err NotAHall) shown none = tt
found_in wanted db rows (Err OtherVersion) shown other = (other.0, record { rows = rows; shown = shown; one = other.1 }, other.2)
found_in wanted db rows (Err Unavailable) shown none = tt

-- ---- all of a look

module _ (wanted : Wanted) (db : Database) where
  -- the number of the schema can't be read, or isn't the one that is wanted
  pub stopped : (e : OpenFault) → ((n : ℤ) → SaysSchema db n → IsVersionOf wanted n (Err e)) → IsFoundBy (NamesSchema db) wanted (Err e) → IsAnswerFor wanted db (Err e)
  stopped NotAHall told found = record { told = (λ n says. absurd (told n says), λ says has. told (wanted_number wanted) says) }
  stopped OtherVersion told found = record { told = found }
  stopped Unavailable told found = record { told = tt }

  -- it is, and the other tables were asked for
  pub looked : (now : Database) (r : Result (Unit {0}) OpenFault) → NamesSchema db (wanted_number wanted) → now ≡ db → AreFound (wanted_rows wanted) now r → IsAnswerFor wanted db r
  looked now (Ok done) names same found = record { told = (names, subst (λ (d : Database). HasTables wanted d.schema) same found) }
  looked now (Err NotAHall) names same found = record { told = (λ n says. one_schema db n (wanted_number wanted) says names, λ says has. found (subst (λ (d : Database). HasTables wanted d.schema) (sym same) has)) }
  looked now (Err OtherVersion) names same found = absurd found
  looked now (Err Unavailable) names same found = record { told = tt }
