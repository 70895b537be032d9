-- A step inside a transaction: what it gives, and what it makes of the rows of a hall's tables.
use Rattle.sql_schema.specs.Words.{State, KeepsCommit, Hall, IsWithin, HallRows}
use Rattle.std.specs.Prelude.{◌≡◌, ⊤, true, Result, IfOk, OnOk, IsTrue}

-- what holds of a step's answer, and that the transaction goes on then; in any case nothing is committed
pub record IsStep (old new : State) {Y E : Type 0} (r : Result Y E) (Gives : Y → Type 0) : Type 0 where
  pub gives : IfOk r Gives
  pub mode : OnOk r (IsTrue old.in_transaction → new.in_transaction ≡ true)
  pub kept : IsTrue old.in_transaction → KeepsCommit old new

-- a step that makes other rows of those that there are, where these are such that it may
abbrev pub IsWritten : State → State → {Y E : Type 0} → Result Y E → (HallRows → Type 0) → (HallRows → HallRows) → Type 0
IsWritten old new r may makes = IsStep old new r (λ _. (before : Hall) (c : HallRows) → IsWithin old before c → may c → IsWithin new before (makes c))

-- whatever the rows are
abbrev pub always : HallRows → Type 0
always c = ⊤
