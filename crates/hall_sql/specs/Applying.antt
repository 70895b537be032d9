-- What a write of all rows of a change promises.
use Rattle.sql_schema.specs.Words.{State, Hall, applied, RowWrite, IsHeld, Holds, Leaves}
use Rattle.std.specs.Prelude.{List, ◌∷◌, Result, OnOk, OnErr}
use Rattle.hall_store.specs.{Rules.AllKeep, Versions.HaveVersions}

-- between calls: all rows are written over the versions that they expect and committed, or none is
pub record IsTold (old new : State) {Y E : Type 0} (r : Result Y E) (rows : List RowWrite) : Type 0 where
  pub made : OnOk r ((h : Hall) → IsHeld old h → AllKeep rows h → IsHeld new (applied rows h))
  pub versions : OnOk r ((h : Hall) → IsHeld old h → AllKeep rows h → HaveVersions rows h)
  pub back : OnErr r ((h : Hall) → IsHeld old h → Holds new h)
  pub crash : (h : Hall) → IsHeld old h → AllKeep rows h → (hs : List Hall) → Leaves old hs → Leaves new (applied rows h ∷ hs)
