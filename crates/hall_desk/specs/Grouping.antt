-- Arrivals that are answered by one commit.
use Rattle.std.specs.{Prelude.{◌≡◌, ⊤, List, [], ◌∷◌, ◌++◌, length, take}, List.AllByRecursion}
use Rattle.hall_desk.specs.{Prelude.{Site, Hall, Ghosts}, Account.IsReadAs, Attempt.IsRan, History.{AllLead, AreUnanswered, Item}, declared.{account.Account.Account, arrival.{Answer.{Answer, TheVariants.Unavailable}, Arrival.Arrival}}}

-- the arrivals that these answers are for: as many of the first
abbrev pub first_of : List Arrival → List Answer → List Arrival
first_of arrivals answers = take (length answers) arrivals

-- the arrival counts as not having come, and the client is told so
abbrev pub IsUnavailable : Answer → Type 0
IsUnavailable a = a ≡ Unavailable

abbrev pub AreAvailable : List Answer → Type 0
AreAvailable answers = AllByRecursion (λ a. ¬ IsUnavailable a) answers

-- each account is of the arrival in its place
abbrev pub AreReadAs : List Arrival → List Account → Type 0
AreReadAs [] [] = ⊤
AreReadAs (arrival ∷ arrivals) (account ∷ accounts) = IsReadAs arrival.input account.came × AreReadAs arrivals accounts
AreReadAs arrivals accounts = ⊥

-- some of the first arrivals lead together from this hall to the other, without their answers
abbrev pub IsTogetherEnd : Site → Hall → List Arrival → Hall → Type 0
IsTogetherEnd site h arrivals end = (came : List Item) × AreUnanswered site arrivals came × AllLead h came end

module _ {S : Type 0} (g : Ghosts S) (old new : S) (site : Site) (h : Hall) (arrivals : List Arrival) where
  -- The arrivals led from this hall, each with its answer, and a stop leaves the hall at their end alone. On the way it leaves what it left
  -- before, or one of these two.
  pub record HasGroupRun (answers : List Answer) : Type 0 where
    pub ran : IsRan g new site h arrivals answers
    pub settled : g.leaves new (ran.end ∷ [])
    pub stop : (hs : List Hall) → g.leaves old hs → g.leaves new (ran.end ∷ h ∷ hs)

  -- None of the arrivals is answered, and the store has the hall that it had. A stop leaves what it left before, or that hall, or the one to
  -- which some of the first arrivals lead together.
  pub record HasNoRun : Type 0 where
    pub end : Hall
    pub together : IsTogetherEnd site h arrivals end
    pub held : g.holds new h
    pub stop : (hs : List Hall) → g.leaves old hs → g.leaves new (end ∷ h ∷ hs)

-- what came before, and then some of the first arrivals together, without their answers
abbrev pub OrTogether : List Item → Site → List Arrival → List Item → Type 0
OrTogether past site arrivals items = (came : List Item) × AreUnanswered site arrivals came × (items ≡ past ++ came)
