-- Which arrivals have the stamps that a source gave.
use Rattle.std.specs.Prelude.{◌≡◌, ◌⊎◌, List, [], ◌∷◌, Option, Some, None}
use Rattle.serve_sockets.specs.{Prelude.Arrival, declared.turn.Tick.Tick}

-- `gives` says which tick a call gives, if any, and between which states of the source
module _ {C : Type 0} (gives : C → Option Tick → C → Type 0) where
  -- the source was asked for nothing, or how long a turn waits
  abbrev pub IsPassed : C → C → Type 0
  IsPassed from till = (till ≡ from) ⊎ gives from None till

  -- These arrivals in turn have the moments and the fresh octets of stamps that the source gave, each those of a tick of its own.
  pub data AreStamped : C → List Arrival → C → Type 0 where
    ended : {c : C} → AreStamped c [] c
    passed : {c d e : C} {tick : Option Tick} {arrivals : List Arrival} → gives c tick d → AreStamped d arrivals e → AreStamped c arrivals e
    handed : {c d e : C} {tick : Tick} {arrival : Arrival} {arrivals : List Arrival} → gives c (Some tick) d
        → arrival.moment ≡ tick.stamp.moment → arrival.fresh ≡ tick.stamp.fresh → AreStamped d arrivals e → AreStamped c (arrival ∷ arrivals) e
