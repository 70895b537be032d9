-- What carrying an arrival out promises, over any store.
use Rattle.std.specs.{Prelude.{◌≡◌, ◌⊎◌, ℕ, List, [], ◌∷◌, Option}, List.AllByRecursion}
use Rattle.hall_store.specs.Store.{Base}
use Rattle.hall_desk.specs.{Prelude.{Site, Hall, IsSound, Ghosts}, Octets.{HasCome, HasMissed, IsArrivalStep, IsArrivalRun, IsIdle}, declared.arrival.{Answer.{Answer, TheVariants.Unavailable}, Arrival.Arrival, Input.Input}}

module _ {S : Type 0} (g : Ghosts S) (old new : S) (site : Site) (input : Input) (moment : ℕ) (fresh : List ℕ) where
  -- what came is in the store: the next hall is sound, and if a stop left the hall before alone, it leaves that one alone
  pub record IsKept (h : Hall) (a : Answer) : Type 0 where
    pub next : Hall
    pub come : HasCome site h input moment fresh a next
    pub held : g.holds new next
    pub sound : IsSound next
    pub settled : g.leaves old (h ∷ []) → g.leaves new (next ∷ [])

  -- a stop leaves what it left before, or the hall that one step leads to, whatever was answered
  pub record IsTorn (h : Hall) (hs : List Hall) : Type 0 where
    pub next : Hall
    pub answer : Answer
    pub step : IsArrivalStep site h input moment fresh answer next
    pub left : g.leaves new (next ∷ hs)

  -- An arrival is answered.
  pub record IsAnswered (a : Answer) : Type 0 where
    pub step : (h : Hall) → g.holds old h → IsSound h → IsKept h a ⊎ (HasMissed h input a h × g.holds new h)
    -- a hall stays, sound or not, that what came doesn't change, and what a stop may leave stays too
    pub idle : (h : Hall) → g.holds old h → IsIdle site h input moment fresh → g.holds new h
    pub still : (h : Hall) → g.holds old h → IsIdle site h input moment fresh → (hs : List Hall) → g.leaves old hs → g.leaves new hs
    -- and each hall stays where the answer is Unavailable
    pub unavailable : a ≡ Unavailable → (h : Hall) → g.holds old h → g.holds new h
    pub crash : (h : Hall) → g.holds old h → IsSound h → (hs : List Hall) → g.leaves old hs → IsTorn h hs
    -- a group stays over its hall, and none is opened or closed
    pub base : (base : Option Base) → g.over old base → g.over new base

-- Where a store took no wrong answer of a disk for a right one (`clean`), it took none before, and this was answered.
module _ {S : Type 0} (g : Ghosts S) (old new : S) (site : Site) (input : Input) (moment : ℕ) (fresh : List ℕ) where
  abbrev pub GivesAnswer : Answer → Type 0
  GivesAnswer a = g.is_clean new → g.is_clean old × IsAnswered g old new site input moment fresh a

-- a store was only read: it has each hall that it had, and a stop leaves what it left before
pub record IsOnlyRead {S : Type 0} (g : Ghosts S) (old new : S) : Type 0 where
  pub same : (h : Hall) → g.holds old h → g.holds new h
  pub stop : (h : Hall) → g.holds old h → (hs : List Hall) → g.leaves old hs → g.leaves new hs
  pub base : (base : Option Base) → g.over old base → g.over new base

-- none of the arrivals changes this hall
abbrev pub ChangeNothing : Site → Hall → List Arrival → Type 0
ChangeNothing site h arrivals = AllByRecursion (λ arrival. IsIdle site h arrival.input arrival.moment arrival.fresh) arrivals

-- A run leads from this hall, each arrival with its answer, to a sound one that the store has.
pub record IsRan {S : Type 0} (g : Ghosts S) (store : S) (site : Site) (h : Hall) (arrivals : List Arrival) (answers : List Answer) : Type 0 where
  pub end : Hall
  pub run : IsArrivalRun site h arrivals answers end
  pub held : g.holds store end
  pub sound : IsSound end
