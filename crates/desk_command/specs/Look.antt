-- What the reads of a decision promise together, over any store.
use Rattle.std.specs.Prelude.{List, Option, Result, IfOk}
use Rattle.hall_store.specs.Store.{Base}
use Rattle.desk_command.specs.Prelude.{Hall, Ghosts}

module _ {S : Type 0} (g : Ghosts S) (old new : S) {Y E : Type 0} (r : Result Y E) where
  -- No read, or some: what is not read settles nothing, and what is read adds nothing to what a stop leaves.
  pub record IsLook (Right : Hall → Y → Type 0) : Type 0 where
    -- the answer is right for the hall that the store has
    pub answer : IfOk r (λ y. (h : Hall) → g.holds old h → Right h y)
    -- which it has afterwards too
    pub same : (h : Hall) → g.holds old h → g.holds new h
    -- a stop leaves what it left before
    pub crash : (h : Hall) → g.holds old h → (hs : List Hall) → g.leaves old hs → g.leaves new hs
    -- a group stays over its hall, and none is opened or closed
    pub base : (base : Option Base) → g.over old base → g.over new base

-- Where a store took no wrong answer of a disk for a right one (`clean`), it took none before, and it was read so.
module _ {S : Type 0} (g : Ghosts S) (old new : S) {Y E : Type 0} (r : Result Y E) where
  abbrev pub Looks : (Hall → Y → Type 0) → Type 0
  Looks Right = g.is_clean new → g.is_clean old × IsLook g old new r Right
