-- What a text means over a schema, and what a statement leaves.
use Rattle.sql_schema.specs.Prelude.{AllByRecursion, Row, understood, reads_listing, Table, Schema, Query, Command, Select, Database, Does, State, IsUnchanged, IsRolledBack, mode_of, IsPlain, command_of, statement_of, Compiled, CompileError, Returning, Program, IsSound}
use Rattle.std.specs.Prelude.{◌≡◌, ◌≢◌, ◌⊎◌, ℕ, List, [], Option, Some, None, Ok, Err, Result, false}

-- what RETURNING shows, if the text has it
abbrev pub returning_of : Result Compiled CompileError → Option Returning
returning_of (Ok c) = c.returning
returning_of (Err e) = None

-- the formats in which the text reads the time
abbrev pub formats_of : Result Compiled CompileError → List (List ℕ)
formats_of (Ok c) = c.formats
formats_of (Err e) = []

-- a query as a program that computes no table first
abbrev pub only : Query → Program
only q = record { lets = []; body = q }

-- over this schema the text is this query, whose columns have some names
pub record IsQueryText (schema : Schema) (sql : List ℕ) (q : Query) : Type 0 where
  pub names : List (List ℕ)
  pub is : command_of (understood schema sql) ≡ Select (only q) names
  pub plain : IsPlain (understood schema sql)
  pub unlisted : reads_listing schema sql ≡ false

-- over this schema the text is this command, without RETURNING
pub record IsCommandText (schema : Schema) (sql : List ℕ) (command : Command) : Type 0 where
  pub is : command_of (understood schema sql) ≡ command
  pub plain : IsPlain (understood schema sql)

-- over this schema the text is this command, with this RETURNING
pub record IsReturningText (schema : Schema) (sql : List ℕ) (command : Command) (what : Returning) : Type 0 where
  pub is : command_of (understood schema sql) ≡ command
  pub returning : returning_of (understood schema sql) ≡ Some what
  pub untimed : formats_of (understood schema sql) ≡ []

-- over this schema the text is one statement and nothing else, as texts that are kept in the schema have to be
pub record IsKeptText (schema : Schema) (sql : List ℕ) (command : Command) : Type 0 where
  pub text : IsCommandText schema sql command
  pub whole : statement_of sql (understood schema sql) ≡ sql

-- a refusal leaves all as it was, or goes back to the last commit
abbrev pub IsBack : State → State → Type 0
IsBack old new = IsUnchanged old new ⊎ IsRolledBack old new

-- the command of the text makes the database this one
abbrev pub MakesDatabase : Schema → List ℕ → Option Returning → Command → Row → State → Database → Type 0
MakesDatabase schema sql returning command params old after =
    (tally : _) × Does old.step_limit (mode_of old) params (record old.now { schema = schema }) (statement_of sql (understood schema sql)) returning command (Ok (tally, after))

-- the table in this tree has these rows, every other table has what it had, and the trees still list the schema
pub record SetsRows (schema : Schema) (tree : ℕ) (old new : Database) (rows : List Row) : Type 0 where
  pub same_schema : new.schema ≡ schema
  pub sound : IsSound schema new.trees
  pub table : new.trees tree ≡ rows
  pub others : AllByRecursion (λ (t : Table). t.tree ≢ tree → new.trees t.tree ≡ old.trees t.tree) schema.tables
