-- What serving one request over a reader and a writer did.
use Rattle.std.specs.{Prelude.{◌≡◌, ◌<◌, ◌≤◌, ◌+◌, ◌⊎◌, ℕ, List, [], ◌++◌, take, length, Option, Some, Bool, false, true}, Io.KnownBytes.{Consumes, IsAtEnd}}
use Rattle.hall_http.specs.Decided.{IsDecided}
use Rattle.hall_desk.specs.{Prelude.{Site, Ends, Ghosts}, Attempt.IsAnswered, Octets.octets_of, declared.{arrival.{Answer.Answer, Input.TheVariants.Request}, reading.Reading.Reading, serving.Served.{Served, TheVariants.{Answered, ReadFailed, WriteFailed}}}}
use Rattle.hall_desk.specs.declared.reading.Reading.TheVariants as reading

-- `before` is what the writer held before, and `after` what it holds then
module _ {S : Type 0} (g : Ghosts S) (old new : S) (site : Site) (moment : ℕ) (fresh : List ℕ) where
  -- the request that the input is was answered, and the answer was written, or its first octets; or nothing was changed or written
  abbrev pub IsServed : List ℕ → List ℕ → Served → Option (List ℕ) → Type 0
  IsServed input before Answered after =
      (a : Answer) × IsAnswered g old new site (Request input) moment fresh a × (after ≡ Some (before ++ octets_of a))
  IsServed input before ReadFailed after = (new ≡ old) × (after ≡ Some before)
  IsServed input before (WriteFailed n) after =
      (a : Answer) × IsAnswered g old new site (Request input) moment fresh a × (n < length (octets_of a)) × (after ≡ Some (before ++ take n (octets_of a)))

-- a read failed, or 4,096 reads gave octets
abbrev pub IfReadFailed : Served → Bool → ℕ → Type 0
IfReadFailed ReadFailed failed takes = (failed ≡ true) ⊎ (takes ≡ 4096)
IfReadFailed other failed takes = Unit {0}

-- a write failed
abbrev pub IfWriteFailed : Served → Bool → Type 0
IfWriteFailed (WriteFailed n) failed = failed ≡ true
IfWriteFailed other failed = Unit {0}

-- the octets are the whole input, or they are its front and decide the request
abbrev pub TakesWhole : Reading → Option (List ℕ) → Option (List ℕ) → Type 0
TakesWhole (reading.Whole octets) old new = Consumes old new octets × (IsAtEnd new ⊎ IsDecided octets)
TakesWhole other old new = Unit {0}

-- what was read: but for the octets of one last read, 512 at most, it doesn't end a request
pub record IsReadInTime (old new : Option (List ℕ)) : Type 0 where
  pub front : List ℕ
  pub last : List ℕ
  pub consumed : Consumes old new (front ++ last)
  pub undecided : (front ≡ []) ⊎ ¬ (Ends front)
  pub short : length last ≤ 512

-- no read comes once the request is decided: each gave octets, but for the last one at most, before which they didn't end a request
pub record IsReadByNeed (old new : Option (List ℕ)) (calls takes : ℕ) : Type 0 where
  pub octets : List ℕ
  pub consumed : Consumes old new octets
  pub needed : (calls ≡ takes) ⊎ ((calls ≡ takes + 1) × ((octets ≡ []) ⊎ ¬ (Ends octets)))
  pub most : calls ≤ 4096

-- a request whose answer was given was read without a failure
abbrev pub IfAnswered : Served → Bool → Type 0
IfAnswered ReadFailed failed = Unit {0}
IfAnswered other failed = failed ≡ false

-- the reading is the request of these octets, unless memory was wanting
abbrev pub IsRequestOf : List ℕ → Reading → Type 0
IsRequestOf octets (reading.Whole request) = request ≡ octets
IsRequestOf octets reading.NoMemory = Unit {0}
IsRequestOf octets reading.Failed = ⊥

abbrev pub IfNotFailed : Reading → Bool → Type 0
IfNotFailed reading.Failed failed = Unit {0}
IfNotFailed other failed = failed ≡ false

abbrev pub IfFailed : Reading → Bool → ℕ → Type 0
IfFailed reading.Failed failed takes = (failed ≡ true) ⊎ (takes ≡ 4096)
IfFailed other failed takes = Unit {0}

-- how much of an answer was written
abbrev pub IsSent : List ℕ → List ℕ → Served → Option (List ℕ) → Type 0
IsSent octets before Answered after = after ≡ Some (before ++ octets)
IsSent octets before ReadFailed after = ⊥
IsSent octets before (WriteFailed n) after = (n < length octets) × (after ≡ Some (before ++ take n octets))

abbrev pub IsWritten : Served → Type 0
IsWritten ReadFailed = ⊥
IsWritten other = Unit {0}
