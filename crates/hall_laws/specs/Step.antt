-- The model: one step for each event, and runs of steps.
use Rattle.std.specs.Prelude.{◌≡◌, ◌⊎◌, ℕ, IsTrue, List, [], ◌∷◌, Option, Some, None}
use Rattle.pxe_vendor.specs.Place.{is_host}
use Rattle.hall_laws.specs.{Prelude.{Site, Hall, applied, AreOctets, BringsImage, Content, Event}, Decision.decision_of, Migration.Continues}

-- an event, with the place that was served, the moment and the fresh octets that it came with
pub record Arrival : Type 0 where
  pub site : Site
  pub event : Event
  pub moment : ℕ
  pub fresh : List ℕ

-- what comes is of its type: a place has a host, 16 octets are fresh, and an image is one
pub record IsTyped (site : Site) (e : Event) (fresh : List ℕ) : Type 0 where
  pub host : IsTrue (is_host site.host)
  pub octets : AreOctets 16 fresh
  pub image : BringsImage e

-- a step: an arrival between two halls, and what was answered, nothing where it counts as not having come
pub record Step : Type 0 where
  pub before : Hall
  pub arrival : Arrival
  pub answer : Option Content
  pub after : Hall

-- what the step's arrival brings is of its type
abbrev pub IsTypedStep : Step → Type 0
IsTypedStep s = IsTyped s.arrival.site s.arrival.event s.arrival.fresh

-- the arrival came: the answer is the decision's, and its rows are written
pub record Came (s : Step) : Type 0 where
  pub answer : s.answer ≡ Some (decision_of s.arrival.site s.before s.arrival.event s.arrival.moment s.arrival.fresh).content
  pub after : s.after ≡ applied (decision_of s.arrival.site s.before s.arrival.event s.arrival.moment s.arrival.fresh).rows s.before

-- the arrival counts as not having come
pub record Missed (s : Step) : Type 0 where
  pub answer : s.answer ≡ None
  pub after : s.after ≡ s.before

-- the one free choice of the model
abbrev pub IsStep : Step → Type 0
IsStep s = Came s ⊎ Missed s

-- steps that lead from one hall to another, each from the hall that the one before left, which may have been migrated
abbrev pub IsRun : Hall → List Step → Hall → Type 0
IsRun h [] end = Continues h end
IsRun h (s ∷ steps) end = Continues h s.before × IsStep s × IsRun s.after steps end
