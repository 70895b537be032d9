-- What is planned for an event, and what writing it promises, over any store.
use Rattle.std.specs.Prelude.{◌≡◌, List, [], ◌∷◌, Option, Result, IfOk, OnOk, OnErr}
use Rattle.hall_laws.specs.Decision.{decision_of}
use Rattle.hall_store.specs.Store.{Base}
use Rattle.hall_desk.specs.{Prelude.{Client, Hall, applied, second, RowWrite, Numbers, Port, enlisted, Decision, Enlist, frame_decision, frame_view, framed, reply_of, Reply, AllKeep, Ghosts, Decided, Event, Site}, declared.arrival.Stamp.Stamp}

-- what a hall makes of an event that comes to a place with a stamp
abbrev pub decided_at : Site → Stamp → Event → Hall → Decided
decided_at site stamp e h = decision_of site h e stamp.moment stamp.fresh

-- the rows and the answer are those of the decision
pub record IsPlanOf (decided : Decided) (rows : List RowWrite) (reply : Reply) : Type 0 where
  pub writes : rows ≡ decided.rows
  pub answers : reply ≡ reply_of second decided.content

abbrev pub Plans : Decided → List RowWrite × Reply → Type 0
Plans decided planned = IsPlanOf decided planned.0 planned.1

-- the rows that a decision on a client's frame writes, after these last numbers
abbrev pub rows_for : Decision → Client → Numbers → List RowWrite
rows_for Enlist client numbers = enlisted client numbers
rows_for other client numbers = []

-- how this hall answers a client's frame at a port, with the rows that it writes for it
pub record IsFramePlan (h : Hall) (port : Port) (client : Client) (planned : List RowWrite × Decision) : Type 0 where
  pub decision : planned.1 ≡ frame_decision (frame_view h client) port client
  pub rows : (site : Site) → planned.0 ≡ (framed (frame_decision (frame_view h client) port client) site h client).rows

module _ {S : Type 0} (g : Ghosts S) (old new : S) {Y E : Type 0} (r : Result Y E) where
  -- Reads, and then a write of these rows if there are any. An answer is right for the hall before.
  pub record IsCarriedOut (rows : Hall → List RowWrite) (Right : Hall → Y → Type 0) : Type 0 where
    -- the answer is right for the hall that the store had
    pub answer : IfOk r (λ y. (h : Hall) → g.holds old h → Right h y)
    -- once it is answered, all of the rows are written, if they keep the tables' rules
    pub made : OnOk r ((h : Hall) → g.holds old h → AllKeep (rows h) h → g.holds new (applied (rows h) h))
    -- a refusal writes none
    pub same : OnErr r ((h : Hall) → g.holds old h → g.holds new h)
    -- a stop leaves what it left before, or the hall with all of the rows
    pub crash : (h : Hall) → g.holds old h → AllKeep (rows h) h → (hs : List Hall) → g.leaves old hs → g.leaves new (applied (rows h) h ∷ hs)
    -- once it is answered, a stop leaves the hall with all of the rows alone, if it left the hall before alone
    pub settled : OnOk r ((h : Hall) → g.holds old h → AllKeep (rows h) h → g.leaves old (h ∷ []) → g.leaves new (applied (rows h) h ∷ []))
    -- where there is no row, a stop leaves what it left before
    pub still : (h : Hall) → g.holds old h → rows h ≡ [] → (hs : List Hall) → g.leaves old hs → g.leaves new hs
    -- a group stays over its hall, and none is opened or closed
    pub base : (base : Option Base) → g.over old base → g.over new base

-- Where a store took no wrong answer of a disk for a right one (`clean`), it took none before, and this was carried out.
module _ {S : Type 0} (g : Ghosts S) (old new : S) {Y E : Type 0} (r : Result Y E) where
  abbrev pub CarriesOut : (Hall → List RowWrite) → (Hall → Y → Type 0) → Type 0
  CarriesOut rows Right = g.is_clean new → g.is_clean old × IsCarriedOut g old new r rows Right
