-- What is known of a request while it comes, and what a request that came whole says.
use Rattle.std.specs.{Prelude.{◌≡◌, ◌≤◌, ℕ, List, ◌++◌, Option, Some, None, Result, Ok, Err, IfOk, length, map}, declared.alloc.AllocError.{AllocError}}
use Rattle.hall_events.specs.declared.event.Event.TheVariants.{Quiet}
use Rattle.hall_http.specs.{Prelude.{RequestHead, ReadsRequest, print_request, name_and_value, Event}, declared.{demand.Demand.Demand, fault.HttpFault.HttpFault, known.KnownHead.{KnownHead, TheVariants.{Never, Found}}}, Answer.◌>>=◌, Demand.{demand_of, body_size}, Event.event_of_demand, Head.HasNoHead, Request.front, Decided.Ends}

-- what a head asks for
abbrev pub asked_by : RequestHead → Result Demand HttpFault
asked_by head = demand_of head.method head.target (map name_and_value head.fields)

-- a head of so many octets stands at the front, with at most 64 fields, and asks for this
pub record HasDemand (octets : List ℕ) (len : ℕ) (demand : Result Demand HttpFault) : Type 0 where
  pub head : RequestHead
  pub rest : List ℕ
  pub reads : ReadsRequest (front octets) head rest
  pub few : length head.fields ≤ 64
  pub len_is : len ≡ length (print_request head)
  pub asks : demand ≡ asked_by head

-- whatever follows, no head of at most 64 fields stands at the front
abbrev pub NeverHasHead : List ℕ → Type 0
NeverHasHead octets = (more : List ℕ) → HasNoHead (front (octets ++ more)) 64

-- what is known of the head holds of the octets
abbrev pub IsKnown : List ℕ → KnownHead → Type 0
IsKnown octets Never = NeverHasHead octets
IsKnown octets (Found len demand) = HasDemand octets len demand

-- the same, where anything is known
abbrev pub IsKnownIfAny : List ℕ → Option KnownHead → Type 0
IsKnownIfAny octets None = Unit {0}
IsKnownIfAny octets (Some known) = IsKnown octets known

-- what a look at the octets finds: nothing where there is no head yet and reading need not stop, and want of memory only at a head
abbrev pub IsFound : List ℕ → Result (Option KnownHead) AllocError → Type 0
IsFound octets (Ok (Some known)) = IsKnown octets known
IsFound octets (Ok None) = HasNoHead (front octets) 64 × ¬ (Ends octets)
IsFound octets (Err error) = ¬ (HasNoHead (front octets) 64)

-- a fault, or all of the body follows the head
abbrev pub IsReadyFor : Result Demand HttpFault → List ℕ → Type 0
IsReadyFor demand after = IfOk demand (λ demand. body_size demand ≤ length after)

-- the event of a demand that may be a fault, with what follows the head
abbrev pub event_after : Result Demand HttpFault → List ℕ → Result Event HttpFault
event_after demand after = demand >>= (λ demand. event_of_demand demand after)

-- the event; any event where there is none
abbrev pub event_in : Result Event HttpFault → Event
event_in (Ok event) = event
event_in (Err fault) = Quiet

-- there is an event
abbrev pub HasEvent : Result Event HttpFault → Type 0
HasEvent (Ok event) = Unit {0}
HasEvent (Err fault) = ⊥
