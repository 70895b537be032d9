-- Which hall a connection holds, between calls and inside a transaction, and what a call on it promises.
use Rattle.sql_schema.specs.{Prelude.{Trees, State, Has, Hall}, Described.hall_schema, HallRows.HallRows, Spelling.{Spells, SpellHall}}
use Rattle.std.specs.Prelude.{◌≡◌, List, true, false, IsTrue, Result, IfOk, OnOk, OnErr}

-- between calls: the connection is open, its tables spell this hall, and all of it is committed
pub record IsHeld (s : State) (h : Hall) : Type 0 where
  pub running : IsTrue s.is_open
  pub schema : s.now.schema ≡ hall_schema
  pub spelt : SpellHall s.now.trees h
  pub kept : s.committed ≡ s.now
  pub autocommit : s.in_transaction ≡ false

-- it is held as long as the connection is open
abbrev pub Holds : State → Hall → Type 0
Holds s h = IsTrue s.is_open → IsHeld s h

-- each outcome of a crash spells one of these halls
abbrev pub Leaves : State → List Hall → Type 0
Leaves s hs = (db : Trees) → s.may_leave db → (h : Hall) × Has hs h × SpellHall db h

-- inside a transaction: the rows as the transaction sees it, over the hall that was there before it
pub record IsWithin (s : State) (before : Hall) (now : HallRows) : Type 0 where
  pub spelt : Spells s.now now
  pub committed_schema : s.committed.schema ≡ hall_schema
  pub kept : SpellHall s.committed.trees before
  pub mode : s.in_transaction ≡ true

-- what a read between calls promises: its answer is right for the hall that is held, and that hall stays
pub record IsTableRead (old new : State) {Y E : Type 0} (r : Result Y E) (Right : Hall → Y → Type 0) : Type 0 where
  pub answer : IfOk r (λ y. (h : Hall) → IsHeld old h → Right h y)
  pub same : OnOk r ((h : Hall) → IsHeld old h → IsHeld new h)
  pub back : OnErr r ((h : Hall) → IsHeld old h → Holds new h)
  pub crash : (h : Hall) → IsHeld old h → (hs : List Hall) → Leaves old hs → Leaves new hs
