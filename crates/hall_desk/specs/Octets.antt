-- Arrivals and answers in octets, and what they mean to the model.
use Rattle.std.specs.Prelude.{◌≡◌, ◌≢◌, ◌⊎◌, ℕ, List, [], ◌∷◌, Ok, Err, ⊤}
use Rattle.hall_types.specs.declared.refusal.Refusal.TheVariants as cause
use Rattle.hall_events.specs.declared.event.Event.TheVariants as event
use Rattle.hall_http.specs.declared.fault.HttpFault.TheVariants as fault
use Rattle.hall_laws.specs.Decision.{decision_of}
use Rattle.hall_desk.specs.{Prelude.{Message, IsFrame, reply_octets, answer_to, IsClient, Site, Client, Hall, applied, second, Port, Refusal, Content, refused, boot_file, reply_of, Event, Reply, Http, IsEvent, HttpFault, UNAVAILABLE, response_of, IsTyped}, declared.arrival.{Answer.Answer, Arrival.Arrival, Input.Input, Stamp.Stamp}}
use Rattle.hall_desk.specs.declared.arrival.Answer.TheVariants as answer
use Rattle.hall_desk.specs.declared.arrival.Input.TheVariants as input

-- the octets that are sent for an answer
abbrev pub octets_of : Answer → List ℕ
octets_of (answer.Frame octets) = octets
octets_of (answer.Response status octets) = octets
octets_of answer.Unavailable = UNAVAILABLE.now
octets_of answer.Silence = []

-- what comes at the moment of a stamp, with its fresh octets
abbrev pub arrival_of : Stamp → Input → Arrival
arrival_of stamp what = record { moment = stamp.moment; fresh = stamp.fresh; input = what }

-- ---- what an arrival's octets mean

-- how the hall's answer to a client is sent: there is nothing to send but a boot file
abbrev pub frame_answer : Site → Message → Client → Content → Answer
frame_answer site message client (boot_file file) = answer.Frame (reply_octets (answer_to message client site file))
frame_answer site message client other = answer.Silence

-- the status of an answer by HTTP
abbrev pub status_of : Reply → ℕ
status_of (Http status kind body) = status
status_of other = 0

-- how the hall's answer to a request is sent
abbrev pub response_answer : Content → Answer
response_answer content = answer.Response (status_of (reply_of second content)) (response_of (reply_of second content))

-- a quiet moment has no one to answer
abbrev pub no_answer : Content → Answer
no_answer content = answer.Silence

-- the refusal of a request that makes no event
abbrev pub refusal_of : HttpFault → Refusal
refusal_of fault.BadRequest = cause.BadRequest
refusal_of fault.NoRoute = cause.NoRoute
refusal_of fault.WrongMethod = cause.WrongMethod
refusal_of fault.NeedLength = cause.NeedLength
refusal_of fault.TooLarge = cause.TooLarge
refusal_of fault.Memory = cause.Unavailable

-- The octets ask the hall for what it makes of an event, and say how that is answered; or they are answered without it.
pub data Meaning : Type 0 where
  asks : Event → (Content → Answer) → Meaning
  answered : Answer → Meaning

-- a client's message came in these octets (RFC 2131, PXE 2.1)
pub record IsFrom (octets : List ℕ) (message : Message) (client : Client) : Type 0 where
  pub carries : IsFrame octets message
  pub sent : IsClient message client

-- a datagram asks for its client
pub record AsksAsClient (site : Site) (port : Port) (octets : List ℕ) (e : Event) (say : Content → Answer) : Type 0 where
  pub message : Message
  pub client : Client
  pub from : IsFrom octets message client
  pub event : e ≡ event.Frame port client
  pub sends : say ≡ frame_answer site message client

-- a request makes no event for a cause
pub record IsRefused (octets : List ℕ) (a : Answer) : Type 0 where
  pub why : HttpFault
  pub first : IsEvent octets (Err why)
  pub known : why ≢ fault.Memory
  pub answer : a ≡ response_answer (refused (refusal_of why))

-- what octets mean
abbrev pub Means : Site → Input → Meaning → Type 0
Means site (input.Datagram port octets) (asks e say) = AsksAsClient site port octets e say
Means site (input.Datagram port octets) (answered a) =
    ((message : Message) (client : Client) → IsFrom octets message client → ⊥) × (a ≡ answer.Silence)
Means site (input.Request octets) (asks e say) = IsEvent octets (Ok e) × (say ≡ response_answer)
Means site (input.Request octets) (answered a) = IsRefused octets a
Means site input.Quiet (asks e say) = (e ≡ event.Quiet) × (say ≡ no_answer)
Means site input.Quiet (answered a) = ⊥

-- ---- steps over octets

-- what a meaning leads to: an answer, and the hall afterwards
abbrev pub Leads : Site → Hall → ℕ → List ℕ → Meaning → Answer → Hall → Type 0
Leads site h moment fresh (asks e say) a after =
    (a ≡ say (decision_of site h e moment fresh).content) × (after ≡ applied (decision_of site h e moment fresh).rows h)
Leads site h moment fresh (answered its) a after = (a ≡ its) × (after ≡ h)

-- what came leads to no change of this hall
abbrev pub ChangesNothing : Site → Hall → ℕ → List ℕ → Meaning → Type 0
ChangesNothing site h moment fresh (asks e say) = (decision_of site h e moment fresh).rows ≡ []
ChangesNothing site h moment fresh (answered a) = ⊤

-- whatever octets mean, they lead to no change of this hall
abbrev pub IsIdle : Site → Hall → Input → ℕ → List ℕ → Type 0
IsIdle site h what moment fresh = (m : Meaning) → Means site what m → ChangesNothing site h moment fresh m

-- a datagram that this hall answers by silence: it is no client's, or its client isn't served
abbrev pub IsSilent : Site → Hall → Input → ℕ → List ℕ → Type 0
IsSilent site h (input.Datagram port octets) moment fresh =
    (m : Meaning) → Means site (input.Datagram port octets) m → (next : Hall) × Leads site h moment fresh m answer.Silence next
IsSilent site h (input.Request octets) moment fresh = ⊥
IsSilent site h input.Quiet moment fresh = ⊥

-- what came is of its type: none can be made otherwise
abbrev pub IsOfType : Site → List ℕ → Meaning → Type 0
IsOfType site fresh (asks e say) = IsTyped site e fresh
IsOfType site fresh (answered a) = ⊤

-- what came is answered so, and leads to the next hall
pub record HasCome (site : Site) (h : Hall) (what : Input) (moment : ℕ) (fresh : List ℕ) (a : Answer) (next : Hall) : Type 0 where
  pub meaning : Meaning
  pub means : Means site what meaning
  pub leads : Leads site h moment fresh meaning a next
  pub typed : IsOfType site fresh meaning

-- how an arrival is answered that counts as not having come
abbrev pub missed_answer : Input → Answer
missed_answer (input.Datagram port octets) = answer.Silence
missed_answer other = answer.Unavailable

-- an arrival was answered: not by Unavailable, and by silence only where this hall answers a datagram so
abbrev pub IsGiven : Site → Hall → Input → ℕ → List ℕ → Answer → Type 0
IsGiven site h what moment fresh a = (a ≢ missed_answer what) ⊎ IsSilent site h what moment fresh

-- the arrival counts as not having come
pub record HasMissed (h : Hall) (what : Input) (a : Answer) (next : Hall) : Type 0 where
  pub answer : a ≡ missed_answer what
  pub same : next ≡ h

-- one step: an arrival leads from a hall to the next, and is answered
abbrev pub IsArrivalStep : Site → Hall → Input → ℕ → List ℕ → Answer → Hall → Type 0
IsArrivalStep site h what moment fresh a next = HasCome site h what moment fresh a next ⊎ HasMissed h what a next

-- each arrival in turn leads from the hall that the one before left, and has one answer
abbrev pub IsArrivalRun : Site → Hall → List Arrival → List Answer → Hall → Type 0
IsArrivalRun site h [] [] end = end ≡ h
IsArrivalRun site h (arrival ∷ arrivals) (a ∷ answers) end =
    (next : Hall) × IsArrivalStep site h arrival.input arrival.moment arrival.fresh a next × IsArrivalRun site next arrivals answers end
IsArrivalRun site h arrivals answers end = ⊥
