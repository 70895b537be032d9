-- What serving a hall makes of its store.
use Rattle.std.specs.Prelude.{List, ◌++◌}
use Rattle.hall_desk.specs.{Headline.HasHistory, History.{Item, Origin, exchanges}, Prelude.{Ghosts, Hall, IsSound, Site}, Stops.{AndCutRun, AreGiven, HasRun, IsLeft, IsSettled}, declared.arrival.{Answer.Answer, Arrival.Arrival}}

-- The hall went on by arrivals that were answered at a place: what comes of them is what the model says, and a stop leaves a hall on the way.
pub record GoesOn {S : Type 0} (g : Ghosts S) (old new : S) (site : Site) : Type 0 where
  pub arrivals : List Arrival
  pub answers : List Answer
  pub run : (h : Hall) → g.holds old h → IsSound h → HasRun g old new site h arrivals answers

-- Likewise at some place. With all that came to the hall since it was new, it is a history that keeps all laws. Of a store that was settled, a
-- stop leaves the hall after some of the arrivals, or after some more whose answers weren't given; and the hall at their end alone, if each
-- was given its answer.
pub record WasServed {S : Type 0} (g : Ghosts S) (old new : S) : Type 0 where
  pub site : Site
  pub arrivals : List Arrival
  pub answers : List Answer
  pub history : (origin : Origin) (past : List Item) → HasHistory g old origin past → HasHistory g new origin (past ++ exchanges site arrivals answers)
  pub settled : (origin : Origin) (past : List Item) → (was : IsSettled g old origin past) → AreGiven site was.history.end arrivals answers
      → IsSettled g new origin (past ++ exchanges site arrivals answers)
  pub stop : (origin : Origin) (past : List Item) → IsSettled g old origin past → IsLeft g new origin (AndCutRun past site arrivals answers)
