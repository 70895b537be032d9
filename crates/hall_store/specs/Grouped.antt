-- What a group of changes promises, over any store that can hold one.
use Rattle.std.specs.Prelude.{◌≢◌, List, [], ◌∷◌, Option, None, Some, Result, OnOk, OnErr}
use Rattle.hall_types.specs.Hall.{Hall}
use Rattle.hall_store.specs.Store.{Base}

-- `holds` says which hall a store has, `leaves` that a stop leaves one of these halls, and `over` what the open group is made over, if one is
-- open
module _ {S : Type 0} (holds : S → Hall → Type 0) (leaves : S → List Hall → Type 0) (over : S → Option Base → Type 0) (old new : S) where
  module _ {Y E : Type 0} (r : Result Y E) where
    -- A group is begun, over the hall that the store has and what a stop left before it, where that is known.
    pub record IsBegun : Type 0 where
      pub begun : OnOk r ((h : Hall) → holds old h → (hs : List Hall) → (hs ≢ [] → leaves old hs) → over new (Some (record { hall = h; halls = hs })))
      pub same : (h : Hall) → holds old h → holds new h
      pub crash : OnErr r ((hs : List Hall) → leaves old hs → leaves new hs)
      pub closed : OnErr r (over old None → over new None)

    -- The changes of a group are written, all or none.
    pub record IsCommitted : Type 0 where
      -- all of them, and then a stop leaves the hall to which they lead alone
      pub made : OnOk r ((h : Hall) → holds old h → holds new h × leaves new (h ∷ []))
      -- or none: the store has the hall that it had before the group
      pub back : OnErr r ((base : Base) → over old (Some base) → holds new base.hall)
      -- and no group is open
      pub closed : over new None
      -- a stop leaves what it left before the group, or the hall to which they lead
      pub crash : (h : Hall) → holds old h → (base : Base) → over old (Some base) → base.halls ≢ [] → leaves new (h ∷ base.halls)

  -- The changes of a group are given up: the store has the hall that it had before it, and a stop leaves what it left then. No group is
  -- open.
  pub record IsRolledBack : Type 0 where
    pub back : (base : Base) → over old (Some base) → holds new base.hall
    pub closed : over new None
    pub crash : (base : Base) → over old (Some base) → base.halls ≢ [] → leaves new base.halls

-- Where a store took no wrong answer of a disk for a right one (`clean`), it took none before, and this was done.
abbrev pub WhereClean : {S : Type 0} → (S → Type 0) → S → S → Type 0 → Type 0
WhereClean clean old new Done = clean new → clean old × Done
