-- What the hall makes of what came, what is answered without it, and what is missed.
use Rattle.std.{proofs.Common.{◌≡◌, ◌∙◌, ℕ, List, ◌∷◌, Result, Ok, Err, ap, refl, sym, subst, inl, inr}, specs.Prelude.{◌≢◌, IfOk}}
use Rattle.hall_laws.specs.Decision.{decision_of}
use Rattle.hall_http.specs.declared.fault.HttpFault.TheVariants.{Memory as NoMemory}
use Rattle.hall_store.specs.declared.store.Unavailable.{Unavailable as Refusing}
use Rattle.hall_desk.specs.{Prelude.{Message, Site, Client, Hall, applied, second, Content, boot_file, refused, Event, IsSound, Decided, IsTyped, IsEvent, HttpFault, AllKeep, Ghosts}, Account.given_or, Attempt.{GivesAnswer, IsAnswered, IsTorn}, AttemptLaws.missed_same, Octets.{HasCome, asks, answered, frame_answer, Means, missed_answer, refusal_of, response_answer}, Plan.{CarriesOut, IsCarriedOut}, declared.arrival.{Answer.{Answer, TheVariants.{Frame, Silence, Unavailable}}, Input.{Input, TheVariants.{Datagram, Quiet, Request}}}}

-- the rows of every decision keep the tables' rules and a sound hall
pub record AreRules : Type 0 where
  pub keep : (site : Site) (h : Hall) (e : Event) (moment : ℕ) (fresh : List ℕ) → IsSound h → h.schema ≡ second → AllKeep (decision_of site h e moment fresh).rows h
  pub sound : (site : Site) (h : Hall) (e : Event) (moment : ℕ) (fresh : List ℕ) → IsSound h → h.schema ≡ second → IsSound (applied (decision_of site h e moment fresh).rows h)

-- a reply to a client is a frame or silence
abbrev pub IsReply : Answer → Type 0
IsReply (Frame octets) = Unit {0}
IsReply Silence = Unit {0}
IsReply other = ⊥

pub is_reply : (site : Site) (message : Message) (client : Client) (c : Content) → IsReply (frame_answer site message client c)
is_reply site message client (boot_file file) = tt
is_reply site message client other = tt

-- what the hall makes of what came is never answered by Unavailable
said_available : (site : Site) (input : Input) (e : Event) (say : Content → Answer) → Means site input (asks e say) → (c : Content) → say c ≡ Unavailable → ⊥
said_available site (Datagram port octets) e say means c is =
    subst IsReply (ap (λ (f : Content → Answer). f c) (sym means.sends) ∙ is) (is_reply site means.message means.client c)
said_available site (Request octets) e say means c is = let gone = subst (λ (f : Content → Answer). f c ≡ Unavailable) means.1 is in cc
said_available site Quiet e say means c is = let gone = subst (λ (f : Content → Answer). f c ≡ Unavailable) means.1 is in cc

-- an arrival that asks the hall
module _ {S : Type 0} (g : Ghosts S) (rules : AreRules) (schema : (s : S) (h : Hall) → g.holds s h → h.schema ≡ second) (old new : S)
    (site : Site) (input : Input) (moment : ℕ) (fresh : List ℕ) (e : Event) (say : Content → Answer) (means : Means site input (asks e say)) (typed : IsTyped site e fresh) where
  abbrev made : Hall → Decided
  made h = decision_of site h e moment fresh

  abbrev IsDone : Result Answer Refusing → Type 0
  IsDone r = IsCarriedOut g old new r (λ h. (made h).rows) (λ h a. a ≡ say (made h).content)

  kept : (h : Hall) → g.holds old h → IsSound h → AllKeep (made h).rows h
  kept h held sound = rules.keep site h e moment fresh sound (schema old h held)

  torn : (r : Result Answer Refusing) → IsDone r → (h : Hall) → g.holds old h → IsSound h → (hs : List Hall) → g.leaves old hs
      → IsTorn g old new site input moment fresh h hs
  torn r c h held sound hs left = record {
    next = applied (made h).rows h;
    answer = say (made h).content;
    step = inl (record { meaning = asks e say; means = means; leads = (refl, refl); typed = typed });
    left = c.crash h held (kept h held sound) hs left;
  }

  answered_asked : (r : Result Answer Refusing) → IsDone r → IsAnswered g old new site input moment fresh (given_or (missed_answer input) r)
  answered_asked (Ok a) c = record {
    step = λ h held sound. inl (record {
      next = applied (made h).rows h;
      come = record { meaning = asks e say; means = means; leads = (c.answer h held, refl); typed = typed };
      held = c.made h held (kept h held sound);
      sound = rules.sound site h e moment fresh sound (schema old h held);
      settled = c.settled h held (kept h held sound);
    });
    idle = λ h held none.
        let no_rows = none (asks e say) means in
        subst (λ rows. g.holds new (applied rows h)) no_rows (c.made h held (subst (λ rows. AllKeep rows h) (sym no_rows) tt));
    still = λ h held none. c.still h held (none (asks e say) means);
    unavailable = λ is h held. absurd (said_available site input e say means _ (sym (c.answer h held) ∙ is));
    crash = torn (Ok a) c;
    base = c.base;
  }
  answered_asked (Err error) c = record {
    step = λ h held sound. inr (record { answer = refl; same = refl }, c.same h held);
    idle = λ h held none. c.same h held;
    still = λ h held none. c.still h held (none (asks e say) means);
    unavailable = λ is. c.same;
    crash = torn (Err error) c;
    base = c.base;
  }

  -- likewise of what a desk gives
  pub gives_asked : (r : Result Answer Refusing) (a : Answer) → a ≡ given_or (missed_answer input) r
      → CarriesOut g old new r (λ h. (made h).rows) (λ h a. a ≡ say (made h).content) → GivesAnswer g old new site input moment fresh a
  gives_asked r a is carried = λ clean.
      let done = carried clean in
      (done.0, subst (IsAnswered g old new site input moment fresh) (sym is) (answered_asked r done.1))

module _ {S : Type 0} (g : Ghosts S) (wider : (s : S) (h : Hall) (hs : List Hall) → g.leaves s hs → g.leaves s (h ∷ hs))
    (s : S) (site : Site) (octets : List ℕ) (moment : ℕ) (fresh : List ℕ) (fault : HttpFault) (first : IsEvent octets (Err fault)) where
  -- a request that makes no event is answered without the hall
  answered_refused : (r : Result Answer Refusing) → IfOk r (λ a. fault ≢ NoMemory) → IfOk r (λ a. a ≡ response_answer (refused (refusal_of fault)))
      → IsAnswered g s s site (Request octets) moment fresh (given_or Unavailable r)
  answered_refused (Err error) known is = missed_same g wider s site moment fresh (Request octets)
  answered_refused (Ok a) known is = record {
    step = λ h held sound. inl (record { next = h; come = come h; held = held; sound = sound; settled = λ left. left });
    idle = λ h held none. held;
    still = λ h held none hs left. left;
    unavailable = λ is h held. held;
    crash = λ h held sound hs left. record { next = h; answer = a; step = inl (come h); left = wider s h hs left };
    base = λ base over. over;
  }
    where
      come : (h : Hall) → HasCome site h (Request octets) moment fresh a h
      come h = record {
        meaning = answered a;
        means = record { why = fault; first = first; known = known; answer = is };
        leads = (refl, refl);
        typed = tt;
      }

  pub gives_refused : (r : Result Answer Refusing) (a : Answer) → a ≡ given_or Unavailable r → IfOk r (λ a. fault ≢ NoMemory)
      → IfOk r (λ a. a ≡ response_answer (refused (refusal_of fault))) → GivesAnswer g s s site (Request octets) moment fresh a
  gives_refused r a is known known_as = λ clean. (clean, subst (IsAnswered g s s site (Request octets) moment fresh) (sym is) (answered_refused r known known_as))
