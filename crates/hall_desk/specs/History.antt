-- What came to a hall since it was new, and the steps of the model that it was.
use Rattle.std.specs.Prelude.{◌≡◌, ◌⊎◌, ⊤, ℕ, List, [], ◌∷◌, Some}
use Rattle.hall_laws.specs.Decision.{decision_of}
pub use Rattle.hall_laws.specs.Origin.{BeginsWith, Origin}
use Rattle.hall_desk.specs.{Prelude.{Site, Hall, applied, second, Content, reply_of, Event, Reply, IsTyped, Step}, Account.IsDatagram, Octets.{HasCome, IsArrivalStep, Means, answered, asks, missed_answer}, declared.arrival.{Answer.Answer, Arrival.Arrival}}

-- ---- items

-- an arrival at a desk that serves this place, and its answer
pub record Exchange : Type 0 where
  pub site : Site
  pub arrival : Arrival
  pub answer : Answer

-- an event that a desk of this place carried out, and its reply
pub record Carried : Type 0 where
  pub site : Site
  pub event : Event
  pub moment : ℕ
  pub fresh : List ℕ
  pub reply : Reply

-- an arrival that came to a hall at a desk that stopped before it gave the answer
pub record Unanswered : Type 0 where
  pub site : Site
  pub arrival : Arrival

-- an event that a desk of this place carried out, and that stopped before it gave the reply
pub record Unreplied : Type 0 where
  pub site : Site
  pub event : Event
  pub moment : ℕ
  pub fresh : List ℕ

-- what came to a hall: octets, or an event of an operator's program, with the answer or without, where the desk stopped
pub data Item : Type 0 where
  exchange : Exchange → Item
  carried : Carried → Item
  unanswered : Unanswered → Item
  unreplied : Unreplied → Item

-- an arrival and its answer
abbrev pub exchanged : Site → Arrival → Answer → Item
exchanged site arrival a = exchange (record { site = site; arrival = arrival; answer = a })

-- an event and its reply
abbrev pub carried_out : Site → Event → ℕ → List ℕ → Reply → Item
carried_out site e moment fresh reply = carried (record { site = site; event = e; moment = moment; fresh = fresh; reply = reply })

-- the same without the answer, and without the reply
abbrev pub came_unanswered : Site → Arrival → Item
came_unanswered site arrival = unanswered (record { site = site; arrival = arrival })

abbrev pub came_unreplied : Site → Event → ℕ → List ℕ → Item
came_unreplied site e moment fresh = unreplied (record { site = site; event = e; moment = moment; fresh = fresh })

-- with the answer, or with the reply, that wasn't given
abbrev pub answered_by : Unanswered → Answer → Exchange
answered_by x a = record { site = x.site; arrival = x.arrival; answer = a }

abbrev pub replied_by : Unreplied → Reply → Carried
replied_by c reply = record { site = c.site; event = c.event; moment = c.moment; fresh = c.fresh; reply = reply }

-- the exchanges of a run
abbrev pub exchanges : Site → List Arrival → List Answer → List Item
exchanges site (arrival ∷ arrivals) (a ∷ answers) = exchanged site arrival a ∷ exchanges site arrivals answers
exchanges site arrivals answers = []

-- some of the first arrivals came, and their answers weren't given; a datagram may count as not having come
abbrev pub AreUnanswered : Site → List Arrival → List Item → Type 0
AreUnanswered site arrivals [] = ⊤
AreUnanswered site [] (item ∷ items) = ⊥
AreUnanswered site (arrival ∷ arrivals) (item ∷ items) =
    ((item ≡ came_unanswered site arrival) × AreUnanswered site arrivals items) ⊎ (IsDatagram arrival.input × AreUnanswered site arrivals (item ∷ items))

-- what came of a run at a desk that stopped: the first exchanges, and then nothing, or some of the next arrivals without their answers
abbrev pub IsCutRun : Site → List Arrival → List Answer → List Item → Type 0
IsCutRun site arrivals answers [] = ⊤
IsCutRun site (arrival ∷ arrivals) (a ∷ answers) (item ∷ items) =
    AreUnanswered site (arrival ∷ arrivals) (item ∷ items) ⊎ ((item ≡ exchanged site arrival a) × IsCutRun site arrivals answers items)
IsCutRun site arrivals answers items = ⊥

-- the event is carried out on this hall, and is of its type
pub record IsCarried (h : Hall) (c : Carried) (next : Hall) : Type 0 where
  pub reply : c.reply ≡ reply_of second (decision_of c.site h c.event c.moment c.fresh).content
  pub after : next ≡ applied (decision_of c.site h c.event c.moment c.fresh).rows h
  pub typed : IsTyped c.site c.event c.fresh

-- the item leads from one hall to the next
abbrev pub ItemLeads : Hall → Item → Hall → Type 0
ItemLeads h (exchange x) next = IsArrivalStep x.site h x.arrival.input x.arrival.moment x.arrival.fresh x.answer next
ItemLeads h (carried c) next = IsCarried h c next
ItemLeads h (unanswered x) next = (a : Answer) × HasCome x.site h x.arrival.input x.arrival.moment x.arrival.fresh a next
ItemLeads h (unreplied c) next = (reply : Reply) × IsCarried h (replied_by c reply) next

-- each item leads from the hall that the one before left
abbrev pub AllLead : Hall → List Item → Hall → Type 0
AllLead h [] end = end ≡ h
AllLead h (item ∷ items) end = (next : Hall) × ItemLeads h item next × AllLead next items end

-- ---- the steps that they were

-- the octets asked the hall for what it makes of an event: the step is that event's, and its content was sent
pub record IsAsked (x : Exchange) (s : Step) : Type 0 where
  pub event : Event
  pub say : Content → Answer
  pub means : Means x.site x.arrival.input (asks event say)
  pub arrived : s.arrival ≡ record { site = x.site; event = event; moment = x.arrival.moment; fresh = x.arrival.fresh }
  pub content : Content
  pub gave : s.answer ≡ Some content
  pub sent : x.answer ≡ say content
  pub typed : IsTyped x.site event x.arrival.fresh

-- the step is the event's, and its content was the reply
pub record IsCarriedBy (c : Carried) (s : Step) : Type 0 where
  pub arrived : s.arrival ≡ record { site = c.site; event = c.event; moment = c.moment; fresh = c.fresh }
  pub content : Content
  pub gave : s.answer ≡ Some content
  pub replied : c.reply ≡ reply_of second content
  pub typed : IsTyped c.site c.event c.fresh

-- the item was this step
abbrev pub IsStepOf : Item → Step → Type 0
IsStepOf (exchange x) s = IsAsked x s
IsStepOf (carried c) s = IsCarriedBy c s
IsStepOf (unanswered x) s = (a : Answer) × IsAsked (answered_by x a) s
IsStepOf (unreplied c) s = (reply : Reply) × IsCarriedBy (replied_by c reply) s

-- the item was no step: octets were answered without the hall, or the arrival counts as not having come
abbrev pub IsAside : Item → Type 0
IsAside (exchange x) = Means x.site x.arrival.input (answered x.answer) ⊎ (x.answer ≡ missed_answer x.arrival.input)
IsAside (carried c) = ⊥
IsAside (unanswered x) = (a : Answer) × Means x.site x.arrival.input (answered a)
IsAside (unreplied c) = ⊥

-- the steps of these items: one of each that asked the hall and came, in turn
abbrev pub AreStepsOf : List Item → List Step → Type 0
AreStepsOf [] steps = steps ≡ []
AreStepsOf (item ∷ items) [] = IsAside item × AreStepsOf items []
AreStepsOf (item ∷ items) (s ∷ steps) = (IsStepOf item s × AreStepsOf items steps) ⊎ (IsAside item × AreStepsOf items (s ∷ steps))
