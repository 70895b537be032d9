-- The event or the first fault of a request's octets.
use Rattle.std.specs.Prelude.{◌≡◌, ◌<◌, ◌≤◌, ℕ, List, Result, Err, length, take, drop, map}
use Rattle.hall_http.specs.{Prelude.{RequestHead, ReadsRequest, print_request, name_and_value, Event}, declared.fault.HttpFault.{HttpFault, TheVariants.BadRequest}, Answer.Answers, Event.event_of_parts, Fields.FieldPair}

-- a head stands in the first 8,192 octets
abbrev pub front : List ℕ → List ℕ
front octets = take 8192 octets

-- what follows a head
abbrev pub after_head : RequestHead → List ℕ → List ℕ
after_head head octets = drop (length (print_request head)) octets

module _ {T : Type 0} (answer : List ℕ → List ℕ → List FieldPair → List ℕ → Result T HttpFault) where
  -- the answer to a head, with what follows it
  abbrev pub of_head : RequestHead → List ℕ → Result T HttpFault
  of_head head after = answer head.method head.target (map name_and_value head.fields) after

  -- where the front holds a complete head of at most 64 fields, the result is that of the head; where it holds none, the request is bad
  pub record IsAnswer (octets : List ℕ) (result : Result T HttpFault) : Type 0 where
    pub head : (head : RequestHead) (rest : List ℕ) → ReadsRequest (front octets) head rest → length head.fields ≤ 64
        → Answers result (of_head head (after_head head octets))
    pub none : ((head : RequestHead) (rest : List ℕ) → ReadsRequest (front octets) head rest → 64 < length head.fields)
        → result ≡ Err BadRequest

-- the result is the event or the first fault of the octets, want of memory aside
abbrev pub IsEvent : List ℕ → Result Event HttpFault → Type 0
IsEvent octets result = IsAnswer event_of_parts octets result
