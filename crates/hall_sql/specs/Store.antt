-- Which hall a store over SQLite has, and what becomes of a call of its connection.
use Rattle.sql_schema.specs.Words.{Error, Held, state, State, Survives, Trees, Hall, second, Holds, Leaves, IsBack}
use Rattle.std.specs.Prelude.{◌≡◌, false, IsTrue, List, Result, Ok, Err, IsErr}
use Rattle.sqlite_trees.specs.declared.store.Store as trees
use Rattle.hall_store.specs.{Expiry.IsEarliest, declared.store.Unavailable.Unavailable}
use Rattle.hall_sql.specs.declared.store.SqlStore.{SqlStore}

-- while the connection is open, a stop leaves what was committed
abbrev pub LeavesCommitted : State → Type 0
LeavesCommitted s = (db : Trees) → IsTrue s.is_open → s.may_leave db → db ≡ s.committed.trees

-- what the store asks
abbrev pub connection : {S : Type 0} → SqlStore S → Held S
connection s = s.conn

module _ {S : Type 0} (g : trees.Ghosts S) where
  -- The store has this hall as long as its connection is open: the connection holds the hall, and no machine of the hall expires
  -- before the moment that the store keeps. Until the store has stopped, its connection is open.
  pub record HasHall (s : SqlStore S) (h : Hall) : Type 0 where
    pub schema : h.schema ≡ second
    pub running : s.stopped ≡ false → IsTrue (state g s.conn).is_open
    pub held : Holds (state g s.conn) h
    pub earliest : IsEarliest s.earliest h.machines

  -- a stop leaves one of these halls
  abbrev pub StopLeaves : SqlStore S → List Hall → Type 0
  StopLeaves s hs = Leaves (state g s.conn) hs

  -- What was answered is passed on, and the store is as it was. A refusal is passed on too, and the connection is as it was, or as it
  -- was at its last commit; unless it stops the store for good, it is open.
  abbrev pub Passes : {Y : Type 0} → SqlStore S → SqlStore S → Result Y Error → Result Y Unavailable → Type 0
  Passes old new (Ok y) out = (out ≡ Ok y) × (new ≡ old)
  Passes old new (Err e) out =
      IsErr out
      × (new.stopped ≡ false → IsTrue (state g new.conn).is_open)
      × IsBack (state g old.conn) (state g new.conn)
      × Survives (state g old.conn) (state g new.conn) (λ _. ⊥)
      × (new.earliest ≡ old.earliest)
