-- What an exchange with the desk sends, and what it makes known.
use Rattle.std.specs.Prelude.{◌≡◌, ℕ, Bool, List, Option, Result, Ok, Err, drop, if◌then◌else◌, ◌==◌, ◌||◌}
use Rattle.hallctl_requests.specs.{declared.response.ResponseFault.{ResponseFault, TheVariants.{Cut, NotHttp, TooLong}}, Response.IsReading}
use Rattle.hallctl_tasks.specs.{Hearing.Hearing, Try.{Came, Octets, Endless, Silence, NoConnection, Try, adds}, declared.{dial.Why.Why, answer.Exchanged.{Exchanged, TheVariants.{Answered, NotTheDesk, Unknown, Unsent}}}}

-- what is known: a whole answer but 503, that what answers isn't the desk, or nothing
pub data Known : Type 0 where
  Heard : Hearing → Known
  Foreign : Known
  Unheard : Known

-- the status and the body of a response by where its body begins
abbrev pub seen : List ℕ → Result (ℕ × ℕ) ResponseFault → Result (ℕ × List ℕ) ResponseFault
seen octets (Ok found) = Ok (found.0, drop found.1 octets)
seen octets (Err fault) = Err fault

-- 503 says nothing of what was asked for, nor do a gateway's 502 and 504 (RFC 9110 sections 15.6.3 to 15.6.5)
abbrev pub says_nothing : ℕ → Bool
says_nothing status = status == 502 || status == 503 || status == 504

abbrev pub heard : ℕ → List ℕ → Known
heard status body = if says_nothing status then Unheard else Heard (record { status = status; body = body })

-- a cut answer says nothing
abbrev pub known_of : Result (ℕ × List ℕ) ResponseFault → Known
known_of (Ok answer) = heard answer.0 answer.1
known_of (Err Cut) = Unheard
known_of (Err NotHttp) = Foreign
known_of (Err TooLong) = Foreign

-- octets are read as a response that makes this known
pub record AreHeard (octets : List ℕ) (known : Known) : Type 0 where
  pub answer : Result (ℕ × List ℕ) ResponseFault
  pub reading : IsReading octets answer
  pub same : known ≡ known_of answer

-- what came makes this known
abbrev pub MakesKnown : Came → Known → Type 0
MakesKnown (Octets octets) known = AreHeard octets known
MakesKnown Endless known = known ≡ Foreign
MakesKnown (Silence why) known = known ≡ Unheard
MakesKnown (NoConnection why) known = known ≡ Unheard

-- what an exchange says
abbrev pub says : Exchanged → Known
says (Answered answer) = Heard answer
says (NotTheDesk strange) = Foreign
says (Unknown why) = Unheard
says (Unsent why) = Unheard

-- one try with these octets, which makes this known
pub record IsTry (before : Option (List Try)) (octets : List ℕ) (known : Known) (after : Option (List Try)) : Type 0 where
  pub one : Try
  pub sent : one.sent ≡ octets
  pub heard : MakesKnown one.came known
  pub added : after ≡ adds before one

-- no try or more, all of them with these octets, and none makes anything known
pub data AreInVain (before : Option (List Try)) (octets : List ℕ) : Option (List Try) → Type 0 where
  none : AreInVain before octets before
  more : (last after : Option (List Try)) → AreInVain before octets last → IsTry last octets Unheard after → AreInVain before octets after

-- tries with these octets alone: all but the last in vain, and the last one makes this known
pub record IsExchange (before : Option (List Try)) (octets : List ℕ) (known : Known) (after : Option (List Try)) : Type 0 where
  pub last : Option (List Try)
  pub vain : AreInVain before octets last
  pub one : IsTry last octets known after

-- ---- nothing was sent

-- the exchange says that nothing was sent
abbrev pub SaysUnsent : Exchanged → Type 0
SaysUnsent (Unsent why) = Unit {0}
SaysUnsent other = ⊥

abbrev pub HasNoConnection : Came → Type 0
HasNoConnection (NoConnection why) = Unit {0}
HasNoConnection other = ⊥

-- a try that had no connection
pub record IsUnsent (before after : Option (List Try)) : Type 0 where
  pub one : Try
  pub unsent : HasNoConnection one.came
  pub added : after ≡ adds before one

-- no try or more, none of which had a connection
pub data AreUnsent (before : Option (List Try)) : Option (List Try) → Type 0 where
  unsent_none : AreUnsent before before
  unsent_more : (last after : Option (List Try)) → AreUnsent before last → IsUnsent last after → AreUnsent before after
