-- What a stop of a desk may leave: halls to which histories lead.
use Rattle.std.specs.{Prelude.{◌≡◌, ◌≢◌, ◌<◌, ◌⊎◌, ℕ, List, [], ◌∷◌, ◌++◌, take, length, Option, Some}, List.AllByRecursion}
use Rattle.hall_desk.specs.{Prelude.{Site, Hall, Event, Ghosts}, Attempt.IsRan, Headline.{HasHistory, Headline, requested}, History.{AllLead, IsCutRun, Item, Origin, came_unanswered, came_unreplied, exchanged}, Octets.{IsArrivalStep, IsGiven, missed_answer, octets_of}, declared.{arrival.{Answer.{Answer, TheVariants.Unavailable}, Arrival.Arrival}, serving.Served.{Served, TheVariants.{Answered, ReadFailed, WriteFailed}}}}

-- each arrival was answered, and none by what is said where it counts as not having come
abbrev pub AreAnswered : List Arrival → List Answer → Type 0
AreAnswered [] answers = answers ≡ []
AreAnswered (arrival ∷ arrivals) [] = ⊥
AreAnswered (arrival ∷ arrivals) (a ∷ answers) = (a ≢ missed_answer arrival.input) × AreAnswered arrivals answers

-- each arrival was answered so, or by a silence that the hall gives to which those before it led from this one
abbrev pub AreGiven : Site → Hall → List Arrival → List Answer → Type 0
AreGiven site h [] answers = answers ≡ []
AreGiven site h (arrival ∷ arrivals) [] = ⊥
AreGiven site h (arrival ∷ arrivals) (a ∷ answers) =
    IsGiven site h arrival.input arrival.moment arrival.fresh a
    × ((next : Hall) → IsArrivalStep site h arrival.input arrival.moment arrival.fresh a next → AreGiven site next arrivals answers)

-- some of the arrivals with their answers lead from this hall to the other, perhaps with some more whose answers weren't given
abbrev pub IsCutEnd : Site → Hall → List Arrival → List Answer → Hall → Type 0
IsCutEnd site h arrivals answers end = (cut : List Item) × IsCutRun site arrivals answers cut × AllLead h cut end

-- Arrivals led from this hall, each with its answer. Of a store that was settled a stop leaves a hall on the way; and the hall at their
-- end alone, if each was given its answer.
pub record HasRun {S : Type 0} (g : Ghosts S) (old new : S) (site : Site) (h : Hall) (arrivals : List Arrival) (answers : List Answer) : Type 0 where
  pub ran : IsRan g new site h arrivals answers
  pub settled : g.leaves old (h ∷ []) → AreGiven site h arrivals answers → g.leaves new (ran.end ∷ [])
  pub stop : (hs : List Hall) → g.leaves old hs → (more : List Hall) × g.leaves new (more ++ hs) × AllByRecursion (IsCutEnd site h arrivals answers) more

-- one of these histories leads to the hall, and keeps all laws
abbrev pub IsEnd : Origin → (List Item → Type 0) → Hall → Type 0
IsEnd origin IsOne h = (items : List Item) × IsOne items × Headline origin items h

module _ {S : Type 0} (g : Ghosts S) (store : S) (origin : Origin) where
  -- the store has a hall to which this history leads, and a stop leaves that hall and no other
  pub record IsSettled (items : List Item) : Type 0 where
    pub history : HasHistory g store origin items
    pub settled : g.leaves store (history.end ∷ [])

module _ {S : Type 0} (g : Ghosts S) (store : S) (origin : Origin) where
  -- a stop leaves a hall to which one of these histories leads
  pub record IsLeft (IsOne : List Item → Type 0) : Type 0 where
    pub halls : List Hall
    pub left : g.leaves store halls
    pub each : AllByRecursion (IsEnd origin IsOne) halls

-- whatever a stop left before, it leaves that, or a hall to which one of these histories leads
abbrev pub LeavesMore : {S : Type 0} → Ghosts S → S → S → Origin → (List Item → Type 0) → Type 0
LeavesMore g old new origin IsOne =
    (hs : List Hall) → g.leaves old hs → (more : List Hall) × g.leaves new (more ++ hs) × AllByRecursion (IsEnd origin IsOne) more

-- ---- requests that were served, of a store that was settled

module _ {S : Type 0} (g : Ghosts S) (store : S) (origin : Origin) (past : List Item) (site : Site) (moment : ℕ) (fresh : List ℕ) where
  -- the store is settled with the request and this answer; or that is Unavailable, and the hall is as it was
  abbrev pub SettlesBy : List ℕ → Answer → Type 0
  SettlesBy octets a = IsSettled g store origin (past ++ exchanged site (requested octets moment fresh) a ∷ []) ⊎ ((a ≡ Unavailable) × HasHistory g store origin past)

  -- the store settles by an answer that was written, or the first octets of it; or it is settled as it was, where the reads failed
  abbrev pub StaysSettled : List ℕ → List ℕ → Served → Option (List ℕ) → Type 0
  StaysSettled octets before Answered after = (a : Answer) × (after ≡ Some (before ++ octets_of a)) × SettlesBy octets a
  StaysSettled octets before ReadFailed after = (after ≡ Some before) × IsSettled g store origin past
  StaysSettled octets before (WriteFailed n) after = (a : Answer) × (n < length (octets_of a)) × (after ≡ Some (before ++ take n (octets_of a))) × SettlesBy octets a

  -- the store is settled as it was, or it settles by an answer to some request that came at this moment, with these fresh octets
  abbrev pub SettlesBySome : Type 0
  SettlesBySome = IsSettled g store origin past ⊎ ((octets : List ℕ) × (a : Answer) × SettlesBy octets a)

-- ---- what came by the stop

-- what came before, or that and the arrival, whose answer wasn't given
abbrev pub OrUnanswered : List Item → Site → Arrival → List Item → Type 0
OrUnanswered past site arrival items = (items ≡ past) ⊎ (items ≡ past ++ came_unanswered site arrival ∷ [])

-- what came before, or that and the event, whose reply wasn't given
abbrev pub OrUnreplied : List Item → Site → Event → ℕ → List ℕ → List Item → Type 0
OrUnreplied past site e moment fresh items = (items ≡ past) ⊎ (items ≡ past ++ came_unreplied site e moment fresh ∷ [])

-- what came before, or that and some request that came at this moment, with these fresh octets, whose answer wasn't given
abbrev pub OrSomeRequest : List Item → Site → ℕ → List ℕ → List Item → Type 0
OrSomeRequest past site moment fresh items = (items ≡ past) ⊎ ((octets : List ℕ) × (items ≡ past ++ came_unanswered site (requested octets moment fresh) ∷ []))

-- what came before, and then some of the arrivals with their answers, and then perhaps some more without
abbrev pub AndCutRun : List Item → Site → List Arrival → List Answer → List Item → Type 0
AndCutRun past site arrivals answers items = (cut : List Item) × IsCutRun site arrivals answers cut × (items ≡ past ++ cut)
