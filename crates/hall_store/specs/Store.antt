-- What a read and a write of a store promise, over any store.
use Rattle.std.specs.Prelude.{⊤, List, [], ◌∷◌, Option, None, Some, Result, IfOk, OnOk, OnErr}
use Rattle.hall_types.specs.{Hall.{Hall, applied}, declared.change.RowWrite.RowWrite}
use Rattle.hall_store.specs.{Rules.AllKeep, Versions.HaveVersions}

-- What a group of changes is made over: the hall that the store has without them, and halls of which a stop leaves one.
pub record Base : Type 0 where
  pub hall : Hall
  pub halls : List Hall

-- a store that opens no group
abbrev pub over_none : {S : Type 0} → S → Option Base → Type 0
over_none s None = ⊤
over_none s (Some base) = ⊥

-- `holds` says which hall a store has, `leaves` that a stop leaves one of these halls, and `over` what the open group is made over, if one is
-- open
module _ {S : Type 0} (holds : S → Hall → Type 0) (leaves : S → List Hall → Type 0) (over : S → Option Base → Type 0) (old new : S) {Y E : Type 0} (r : Result Y E) where
  pub record IsRead (Right : Hall → Y → Type 0) : Type 0 where
    -- the answer is right for the hall that the store has
    pub answer : IfOk r (λ y. (h : Hall) → holds old h → Right h y)
    -- which it has afterwards too
    pub same : (h : Hall) → holds old h → holds new h
    -- a stop leaves what it left before
    pub crash : (h : Hall) → holds old h → (hs : List Hall) → leaves old hs → leaves new hs
    -- and once the read is answered, that hall alone
    pub settled : OnOk r ((h : Hall) → holds old h → leaves new (h ∷ []))
    -- a group stays over its hall, and none is opened or closed
    pub base : (base : Option Base) → over old base → over new base

  -- `rows` are what is written in the hall that the store has
  pub record IsWrite (rows : Hall → List RowWrite) : Type 0 where
    -- all of the rows are written, if they keep the tables' rules
    pub made : OnOk r ((h : Hall) → holds old h → AllKeep (rows h) h → holds new (applied (rows h) h))
    -- and only over the versions that they expect
    pub versions : OnOk r ((h : Hall) → holds old h → AllKeep (rows h) h → HaveVersions (rows h) h)
    -- a refusal writes none
    pub same : OnErr r ((h : Hall) → holds old h → holds new h)
    -- a stop leaves what it left before, or the hall with all of the rows
    pub crash : (h : Hall) → holds old h → AllKeep (rows h) h → (hs : List Hall) → leaves old hs → leaves new (applied (rows h) h ∷ hs)
    -- and once the write is answered, the hall with all of the rows alone
    pub settled : OnOk r ((h : Hall) → holds old h → AllKeep (rows h) h → leaves new (applied (rows h) h ∷ []))
    -- a group stays over its hall, and none is opened or closed
    pub base : (base : Option Base) → over old base → over new base

-- Where a store took no wrong answer of a disk for a right one (`clean`), it took none before, and it was read or written so.
module _ {S : Type 0} (clean : S → Type 0) (holds : S → Hall → Type 0) (leaves : S → List Hall → Type 0) (over : S → Option Base → Type 0) (old new : S) {Y E : Type 0} (r : Result Y E) where
  abbrev pub ReadsBy : (Hall → Y → Type 0) → Type 0
  ReadsBy Right = clean new → clean old × IsRead holds leaves over old new r Right

  abbrev pub WritesBy : (Hall → List RowWrite) → Type 0
  WritesBy rows = clean new → clean old × IsWrite holds leaves over old new r rows
