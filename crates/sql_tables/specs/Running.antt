-- Statements inside a transaction, and how it ends.
use Rattle.sql_schema.specs.Words.{Row, State, Executes, IsRolledBack, Shows}
use Rattle.std.specs.Prelude.{◌≡◌, ℕ, List, false, Result, Ok, OnOk, OnErr, IsTrue}

-- the statement was carried out
pub record IsRun (sql : List ℕ) (params : Row) (old new : State) : Type 0 where
  pub count : ℕ
  pub ran : Executes sql params old new (Ok count)

-- the transaction was committed, where all of it was done, or else undone
pub record IsEnded (old new : State) {E F : Type 0} (done : Result (Unit {0}) E) (r : Result (Unit {0}) F) : Type 0 where
  pub committed : OnOk r ((done ≡ Ok tt) × Shows old new old.now old.now false)
  pub undone : OnErr r (OnOk done (IsTrue old.in_transaction) → IsRolledBack old new)
