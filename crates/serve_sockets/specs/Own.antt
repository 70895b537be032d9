-- Which answers connections have, and what they were given to.
use Rattle.std.specs.{Prelude.{◌≡◌, ◌⊎◌, ℕ, List, ◌∷◌, Option, None, Some, slice_get, slice_set}}
use Rattle.serve_sockets.specs.{Prelude.{Answer, Arrival, Input, Request}, Connection.{IsAnsweredBy, answer_of, input_of, number_of}, declared.{connection.Connection.Connection, serving.Step.Step}}

-- this is an answer to a request of these octets, among arrivals that were answered
pub data IsAnswerIn (octets : List ℕ) (a : Answer) : List Arrival → List Answer → Type 0 where
  first : {arrival : Arrival} {arrivals : List Arrival} {answers : List Answer} → arrival.input ≡ Request octets → IsAnswerIn octets a (arrival ∷ arrivals) (a ∷ answers)
  later : {arrival : Arrival} {arrivals : List Arrival} {other : Answer} {answers : List Answer} → IsAnswerIn octets a arrivals answers
      → IsAnswerIn octets a (arrival ∷ arrivals) (other ∷ answers)

-- the connection of this number has this answer, and these octets were read from its client
pub record HasAnswer {T : Type 0} (slots : List (Option (Connection T))) (number : ℕ) (octets : List ℕ) (a : Answer) : Type 0 where
  pub slot : ℕ
  pub connection : Connection T
  pub held : slice_get slots slot ≡ Some (Some connection)
  pub numbered : number_of connection ≡ number
  pub asked : input_of connection ≡ octets
  pub answered : answer_of connection ≡ Some a

module _ {T : Type 0} (slots slots' : List (Option (Connection T))) where
  -- what an answer is that a connection has now, and hadn't before, to the octets that were read from its client
  abbrev pub AreAnswers : (List ℕ → Answer → Type 0) → Type 0
  AreAnswers IsOne = (number : ℕ) (octets : List ℕ) (a : Answer) → HasAnswer slots' number octets a → HasAnswer slots number octets a ⊎ IsOne octets a

  -- no connection has an answer that it hadn't before
  abbrev pub NoAnswers : Type 0
  NoAnswers = (number : ℕ) (octets : List ℕ) (a : Answer) → HasAnswer slots' number octets a → HasAnswer slots number octets a

  -- what was said of this, if it was a request, is the answer
  abbrev pub IsAnswerTo : Input → Answer → Type 0
  IsAnswerTo what said = AreAnswers (λ octets a. (what ≡ Request octets) × (said ≡ a))

  -- each of them is the answer to the request that was read from the client, by one of these arrivals
  abbrev pub AreOwn : List Arrival → List Answer → Type 0
  AreOwn arrivals answers = AreAnswers (λ octets a. IsAnswerIn octets a arrivals answers)

  -- each connection was there
  abbrev pub IsPart : Type 0
  IsPart = (k : ℕ) (connection : Connection T) → slice_get slots' k ≡ Some (Some connection) → slice_get slots k ≡ Some (Some connection)

  -- one slot at most was made free
  abbrev pub IsFreed : Type 0
  IsFreed = (slots' ≡ slots) ⊎ ((slot : ℕ) × (slots' ≡ slice_set slots slot None))

  -- a slot's connection was taken out of it
  abbrev pub IsOut : ℕ → Connection T → Type 0
  IsOut slot connection = (slice_get slots slot ≡ Some (Some connection)) × (slots' ≡ slice_set slots slot None)

  -- a connection was put into a slot
  abbrev pub IsIn : ℕ → Connection T → Type 0
  IsIn slot connection = slots' ≡ slice_set slots slot (Some connection)

  -- likewise, or it was closed
  abbrev pub IsInOrClosed : ℕ → Connection T → Type 0
  IsInOrClosed slot connection = IsIn slot connection ⊎ (slots' ≡ slots)

  -- likewise after a step: one that was handed over isn't closed
  abbrev pub IsInAfter : Step → ℕ → Connection T → Type 0
  IsInAfter (Step.Handed handover) slot connection = IsIn slot connection
  IsInAfter step slot connection = IsInOrClosed slot connection

  -- a client's own connection was put into its slot, with this answer to what it sent
  pub record IsGivenIn (slot : ℕ) (was : Connection T) (a : Answer) : Type 0 where
    pub connection : Connection T
    pub put : IsIn slot connection
    pub by : IsAnsweredBy was connection a

module _ {T : Type 0} (slots : List (Option (Connection T))) (slot : ℕ) (was : Connection T) where
  -- a client's own connection is in its slot, with this answer to what it sent, and nothing else is to be written
  pub record IsGiven (a : Answer) : Type 0 where
    pub connection : Connection T
    pub held : slice_get slots slot ≡ Some (Some connection)
    pub by : IsAnsweredBy was connection a

  -- a client's connection is in its slot as it was, or there was no memory for that, and it was closed
  abbrev pub IsBack : Type 0
  IsBack = (slice_get slots slot ≡ Some (Some was)) ⊎ (slice_get slots slot ≡ Some None)
