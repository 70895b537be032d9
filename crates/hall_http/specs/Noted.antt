-- What is noted of a reader or a writer.
use Rattle.std.specs.{Prelude.{◌≡◌, ℕ, ◌+◌, List, take, Option, Some, None, Bool, min, if◌then◌else◌, ◌==◌}, Io.KnownBytes.{Consumes, Appends, Keeps, IsAtEnd}}
use Rattle.hall_http.specs.declared.noted.Noted.{Noted}

module _ {T : Type 0} where
  -- the reader or the writer itself
  abbrev pub inner_of : Noted T → T
  inner_of noted = noted.inner

  -- whether a call failed so far
  abbrev pub failed_of : Noted T → Bool
  failed_of noted = noted.has_failed

  -- how many takes there were so far, also those that failed or gave none
  abbrev pub calls_of : Noted T → ℕ
  calls_of noted = noted.calls

  -- how many takes gave an octet so far
  abbrev pub takes_of : Noted T → ℕ
  takes_of noted = noted.takes

-- counts stay at 65,535
abbrev pub one_more : ℕ → ℕ
one_more n = min (n + 1) 65535

-- a take that gave an octet is counted
abbrev pub counted : Option ℕ → ℕ → ℕ
counted None takes = takes
counted (Some n) takes = if n == 0 then takes else one_more takes

-- what a take does to the octets that are left: those in the buffer go, none only at the end, and nothing where it failed
abbrev pub Takes : Option (List ℕ) → Option (List ℕ) → Option ℕ → List ℕ → Type 0
Takes old new None buf = Keeps old new
Takes old new (Some n) buf = Consumes old new (take n buf) × (n ≡ 0 → IsAtEnd new)

-- what a put does to the octets that were written: those that it took come, and nothing where it failed
abbrev pub Puts : Option (List ℕ) → Option (List ℕ) → Option ℕ → List ℕ → Type 0
Puts old new None octets = Keeps old new
Puts old new (Some n) octets = Appends old new (take n octets)
