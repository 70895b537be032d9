-- What is asked of a file before its hall is used, and what each refusal says.
use Rattle.sql_schema.specs.{Words.{AllByRecursion, Null, Int, Database, understood, Row, Schema, State, Compiled, IsQueryText, column, find_numbers_query}, declared.creating.TheConstants.{FIND_NUMBERS, READ_FIRST, READ_SECOND}}
use Rattle.std.specs.Prelude.{◌≡◌, ◌≢◌, ℕ, ℤ, pos, false, List, [], ◌∷◌, ◌++◌, map, ⊤, Result, Ok, Err, IsTrue}
use Rattle.sqlite.specs.Effect.{Reads}
use Rattle.sql_tables.specs.declared.{fault.OpenFault.{OpenFault, TheVariants.{NotAHall, OtherVersion, Unavailable}}, looking.Wanted.{Wanted, TheVariants.{First, Second}}}

-- ---- the tables of a schema

-- the number of the schema that is looked for
abbrev pub wanted_number : Wanted → ℤ
wanted_number First = pos 1
wanted_number Second = pos 2

-- queries that name all columns of each table of the first schema but `hall`
abbrev pub first_rows : List (List ℕ)
first_rows = map (λ text. text.now) READ_FIRST.now

-- of those that the second schema has besides
abbrev pub second_rows : List (List ℕ)
second_rows = map (λ text. text.now) READ_SECOND.now

-- of each table of the wanted schema
abbrev pub wanted_rows : Wanted → List (List ℕ)
wanted_rows First = first_rows
wanted_rows Second = second_rows ++ first_rows

-- the text is a statement over these tables
abbrev pub IsUnderstood : Schema → List ℕ → Type 0
IsUnderstood schema sql = (c : Compiled) × (understood schema sql ≡ Ok c)

abbrev pub AreUnderstood : Schema → List (List ℕ) → Type 0
AreUnderstood schema texts = AllByRecursion (IsUnderstood schema) texts

-- each table of this schema but `hall` is there with its columns
abbrev pub HasTables : Wanted → Schema → Type 0
HasTables wanted schema = AreUnderstood schema (wanted_rows wanted)

-- a query without parameters shows these rows of a database
pub record ShowsRows (db : Database) (sql : List ℕ) (rows : List Row) : Type 0 where
  pub query : Compiled
  pub means : understood db.schema sql ≡ Ok query
  pub shown : Reads query.command db [] rows

-- the first value of the one row among these is this number
pub record IsOneRow (rows : List Row) (n : ℤ) : Type 0 where
  pub row : Row
  pub only : rows ≡ row ∷ []
  pub number : column row 0 ≡ Int n

-- `hall` has one row that can be read, which names the schema by this number
pub record NamesSchema (db : Database) (n : ℤ) : Type 0 where
  pub rows : List Row
  pub shown : ShowsRows db FIND_NUMBERS.now rows
  pub one : IsOneRow rows n

-- `hall` has no such row: it isn't there, it has no column of these, no row or several, or no number in it
abbrev pub NamesNoSchema : Database → Type 0
NamesNoSchema db = (n : ℤ) → NamesSchema db n → ⊥

-- the table `hall` is there as this program makes it, and its one row says that the schema has this number
pub record SaysSchema (db : Database) (n : ℤ) : Type 0 where
  pub reads : IsQueryText db.schema FIND_NUMBERS.now find_numbers_query
  pub last : (machine : ℤ) × (boot : ℤ) × (order : ℤ) × (db.trees 0 ≡ (Int (pos 1) ∷ Null ∷ Int n ∷ Int machine ∷ Int boot ∷ Int order ∷ []) ∷ [])

-- ---- answers

-- what Ok, NotAHall and OtherVersion each tell: a want of memory or of the disk can be answered of any tables
abbrev pub Tells : Result (Unit {0}) OpenFault → Type 0 → Type 0 → Type 0 → Type 0
Tells (Ok done) Good Missing Other = Good
Tells (Err NotAHall) Good Missing Other = Missing
Tells (Err OtherVersion) Good Missing Other = Other
Tells (Err Unavailable) Good Missing Other = ⊤

-- unless it can't be said what the tables are
abbrev pub IfSaid : Result (Unit {0}) OpenFault → Type 0 → Type 0
IfSaid r P = Tells r P P P

-- what the answer says of the tables of a file, where this schema is asked for. Ok: the one row of `hall` names the schema, and all tables are
-- there, whatever else is. OtherVersion: that row names another schema. NotAHall: neither is so of a `hall` as this program makes it
pub record IsAnswerFor (wanted : Wanted) (db : Database) (r : Result (Unit {0}) OpenFault) : Type 0 where
  pub told : Tells r (NamesSchema db (wanted_number wanted) × HasTables wanted db.schema)
      (((n : ℤ) → SaysSchema db n → n ≡ wanted_number wanted) × (SaysSchema db (wanted_number wanted) → HasTables wanted db.schema → ⊥))
      ((n : ℤ) × NamesSchema db n × (n ≢ wanted_number wanted))

-- what the answer says of a hall of the second schema
abbrev pub IsRightAnswer : Database → Result (Unit {0}) OpenFault → Type 0
IsRightAnswer db r = IsAnswerFor Second db r

-- ---- steps within a transaction

-- whether these texts are understood was asked
abbrev pub AreFound : List (List ℕ) → Database → Result (Unit {0}) OpenFault → Type 0
AreFound texts db r = Tells r (AreUnderstood db.schema texts) (AreUnderstood db.schema texts → ⊥) ⊥

-- whether the schema has the wanted number was asked
abbrev pub IsVersionOf : Wanted → ℤ → Result (Unit {0}) OpenFault → Type 0
IsVersionOf wanted n r = Tells r (n ≡ wanted_number wanted) ⊥ (n ≢ wanted_number wanted)

-- the number was found, which is the wanted one or another
abbrev pub IsFoundBy : (ℤ → Type 0) → Wanted → Result (Unit {0}) OpenFault → Type 0
IsFoundBy Names wanted r = Tells r (Names (wanted_number wanted)) ⊤ ((n : ℤ) × Names n × (n ≢ wanted_number wanted))

-- the one row of `hall`, with the number of the schema first
abbrev pub IsSchemaRow : ℤ → List Row → Type 0
IsSchemaRow n rows = (machine : ℤ) × (boot : ℤ) × (order : ℤ) × (rows ≡ (Int n ∷ Int machine ∷ Int boot ∷ Int order ∷ []) ∷ [])

-- ---- between calls

-- the connection was open and is, and shows what it showed, all of it committed and outside a transaction
pub record IsReady (old new : State) : Type 0 where
  pub was_open : IsTrue old.is_open
  pub is_open : IsTrue new.is_open
  pub same : new.now ≡ old.now
  pub flat : new.committed ≡ new.now
  pub autocommit : new.in_transaction ≡ false
