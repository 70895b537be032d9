-- What a step of a connection did.
use Rattle.std.specs.{Prelude.{◌≡◌, ◌⊎◌, ℕ, List, ◌++◌, Option, IfSome}, Io.KnownBytes.IsAtEnd}
use Rattle.serve_sockets.specs.{Prelude.{Site, IsAnswered, IsDecided, IsOnlyRead, store_of, Answer, Request, Desk, Ghosts}, Connection.{KeepsAnswer, Waits}, Turn.{HandsNothing, IsPutOff, KeepsDesk, Tells}, declared.{connection.Connection.Connection, serving.Step.Step, turn.{Handover.Handover, Turn.Turn}}}

module _ {S T : Type 0} (g : Ghosts S) (old new : S) (site : Site) (moment : ℕ) (fresh : List ℕ) where
  -- the octets were handed to the desk as a request, and its answer waits in the connection
  pub record IsWaiting (octets : List ℕ) (connection : Connection T) (handover : Handover) : Type 0 where
    pub said : Answer
    pub tells : Tells handover (Request octets) said
    pub answered : IsAnswered g old new site (Request octets) moment fresh said
    pub waits : Waits connection octets said

  -- A request was handed to the desk, and its answer waits. It is the answer to all that the client sends, also to what
  -- isn't read: `read` are the octets before the step, and `rest` those that the stream had.
  pub record IsRequest (read : List ℕ) (rest : Option (List ℕ)) (connection : Connection T) (handover : Handover) : Type 0 where
    pub octets : List ℕ
    pub said : Answer
    pub tells : Tells handover (Request octets) said
    pub answered : IsAnswered g old new site (Request octets) moment fresh said
    pub whole : IfSome rest (λ more. IsAnswered g old new site (Request (read ++ more)) moment fresh said)
    pub waits : Waits connection octets said

-- the octets decide a request, or none come after them
abbrev pub IsWhole : Option (List ℕ) → List ℕ → Type 0
IsWhole rest octets = IsAtEnd rest ⊎ IsDecided octets

-- a step handed nothing to the desk, and asked it nothing, and no request waits after it
abbrev pub IsOnlyMoved : Step → Type 0
IsOnlyMoved (Step.Handed handover) = ⊥
IsOnlyMoved Step.PutOff = ⊥
IsOnlyMoved Step.Decided = ⊥
IsOnlyMoved step = Unit {0}

-- but for a request that was handed over, an answer that the connection has is the one that it had
abbrev pub HoldsOn : {T : Type 0} → Step → Connection T → Connection T → Type 0
HoldsOn (Step.Handed handover) old new = Unit {0}
HoldsOn step old new = KeepsAnswer old new

-- the turn of a step
abbrev pub IsTurnOf : Step → Turn → Type 0
IsTurnOf (Step.Handed handover) turn = turn ≡ Turn.Handed handover
IsTurnOf Step.PutOff turn = IsPutOff turn
IsTurnOf step turn = HandsNothing turn

-- `P` holds of a request that was handed over; where one was put off, the hall was only read
abbrev pub StepDid : {S : Type 0} → Ghosts S → Desk S → Desk S → (Handover → Type 0) → Step → Type 0
StepDid g old new P (Step.Handed handover) = g.is_clean (store_of new) → P handover
StepDid g old new P Step.PutOff = g.is_clean (store_of new) → IsOnlyRead g (store_of old) (store_of new)
StepDid g old new P step = new ≡ old

-- What a step did with the desk, where `P` is what holds of a request that it handed over.
pub record IsStep {S : Type 0} (g : Ghosts S) (old new : Desk S) (P : Handover → Type 0) (step : Step) : Type 0 where
  pub kept : KeepsDesk g old new
  pub did : StepDid g old new P step
