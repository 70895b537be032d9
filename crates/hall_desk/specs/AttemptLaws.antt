-- An answer to octets that decide a request is one to more of them; what counts as not having come leaves the store as it is.
use Rattle.std.{specs.{Prelude.{◌≡◌, ◌⊎◌, ◌∷◌, ◌++◌, ℕ, List, Option, Some, None, IfSome, Ok, Err}, Io.KnownBytes.{Consumes, IsAtEnd}}, proofs.Common.{◌∙◌, ap, append-nil, append_assoc, inl, inr, refl, subst, sym}}
use Rattle.hall_http.specs.Decided.{IsDecided}
use Rattle.hall_desk.specs.{Prelude.{Site, Hall, Ghosts}, Attempt.{GivesAnswer, IsAnswered, IsKept, IsOnlyRead, IsTorn}, Octets.{HasCome, HasMissed, IsArrivalStep, Meaning, Means, answered, asks, missed_answer}, declared.arrival.{Answer.{Answer, TheVariants.Unavailable}, Input.{Input, TheVariants.Request}}}

-- a store that stays as it is was only read
pub read_same : {S : Type 0} (g : Ghosts S) (s : S) → IsOnlyRead g s s
read_same g s = record { same = λ h held. held; stop = λ h held hs left. left; base = λ base over. over }

module _ {S : Type 0} (g : Ghosts S) (wider : (s : S) (h : Hall) (hs : List Hall) → g.leaves s hs → g.leaves s (h ∷ hs))
    (s : S) (site : Site) (moment : ℕ) (fresh : List ℕ) where
  -- what counts as not having come leaves the store as it is
  pub missed_same : (what : Input) → IsAnswered g s s site what moment fresh (missed_answer what)
  missed_same what = record {
    step = λ h held sound. inr (record { answer = refl; same = refl }, held);
    idle = λ h held none. held;
    still = λ h held none hs left. left;
    unavailable = λ is h held. held;
    crash = λ h held sound hs left. record {
      next = h;
      answer = missed_answer what;
      step = inr (record { answer = refl; same = refl });
      left = wider s h hs left;
    };
    base = λ base over. over;
  }

  pub gives_missed : (what : Input) → GivesAnswer g s s site what moment fresh (missed_answer what)
  gives_missed what = λ clean. (clean, missed_same what)

  -- likewise of a request that can't be read for want of memory, after what was read of it
  pub unread : (read : List ℕ) (rest : Option (List ℕ)) → IfSome rest (λ more. IsAnswered g s s site (Request (read ++ more)) moment fresh Unavailable)
  unread read None = tt
  unread read (Some more) = missed_same (Request (read ++ more))

module _ {S : Type 0} (g : Ghosts S) (old new : S) (site : Site) (moment : ℕ) (fresh : List ℕ) where
  module _ (octets more : List ℕ) (decided : IsDecided octets) where
    means_on : (m : Meaning) → Means site (Request octets) m → Means site (Request (octets ++ more)) m
    means_on (asks e say) it = (decided more (Ok e) it.0, it.1)
    means_on (answered a) it = record { why = it.why; first = decided more (Err it.why) it.first; known = it.known; answer = it.answer }

    come_on : (h next : Hall) (a : Answer) → HasCome site h (Request octets) moment fresh a next → HasCome site h (Request (octets ++ more)) moment fresh a next
    come_on h next a it = record { meaning = it.meaning; means = means_on it.meaning it.means; leads = it.leads; typed = it.typed }

    missed_on : (h next : Hall) (a : Answer) → HasMissed h (Request octets) a next → HasMissed h (Request (octets ++ more)) a next
    missed_on h next a it = record { answer = it.answer; same = it.same }

    step_on : (h next : Hall) (a : Answer) → IsArrivalStep site h (Request octets) moment fresh a next → IsArrivalStep site h (Request (octets ++ more)) moment fresh a next
    step_on h next a (inl come) = inl (come_on h next a come)
    step_on h next a (inr missed) = inr (missed_on h next a missed)

    kept_on : (h : Hall) (a : Answer) → IsKept g old new site (Request octets) moment fresh h a → IsKept g old new site (Request (octets ++ more)) moment fresh h a
    kept_on h a it = record { next = it.next; come = come_on h it.next a it.come; held = it.held; sound = it.sound; settled = it.settled }

    torn_on : (h : Hall) (hs : List Hall) → IsTorn g old new site (Request octets) moment fresh h hs → IsTorn g old new site (Request (octets ++ more)) moment fresh h hs
    torn_on h hs it = record { next = it.next; answer = it.answer; step = step_on h it.next it.answer it.step; left = it.left }

    -- an answer to octets that decide a request is one to them with any octets after them
    pub answered_on : (a : Answer) → IsAnswered g old new site (Request octets) moment fresh a → IsAnswered g old new site (Request (octets ++ more)) moment fresh a
    answered_on a it = record {
      step = λ h held sound. elim (it.step h held sound) [ inl kept ↦ inl (kept_on h a kept) | inr missed ↦ inr (missed_on h h a missed.0, missed.1) ];
      idle = λ h held none. it.idle h held (λ m means. none m (means_on m means));
      still = λ h held none. it.still h held (λ m means. none m (means_on m means));
      unavailable = it.unavailable;
      crash = λ h held sound hs left. torn_on h hs (it.crash h held sound hs left);
      base = it.base;
    }

  -- an answer to what was read is one to all that was to be read
  pub answered_whole : (read octets all : List ℕ) (rest after : Option (List ℕ)) (a : Answer) → Consumes rest after octets → all ≡ read ++ octets
      → (IsAtEnd after ⊎ IsDecided all) → IsAnswered g old new site (Request all) moment fresh a
      → IfSome rest (λ more. IsAnswered g old new site (Request (read ++ more)) moment fresh a)
  answered_whole read octets all None after a f k g it = tt
  answered_whole read octets all (Some more) None a f k g it = absurd f
  answered_whole read octets all (Some more) (Some left) a f k (inl e) it =
      let same : all ≡ read ++ more = k ∙ ap (λ t. read ++ t) (sym (f ∙ ap (λ t. octets ++ t) e ∙ append-nil octets)) in
      subst (λ (o : List ℕ). IsAnswered g old new site (Request o) moment fresh a) same it
  answered_whole read octets all (Some more) (Some left) a f k (inr d) it =
      let same : all ++ left ≡ read ++ more = ap (λ t. t ++ left) k ∙ append_assoc read octets left ∙ ap (λ t. read ++ t) (sym f) in
      subst (λ (o : List ℕ). IsAnswered g old new site (Request o) moment fresh a) same (answered_on all left d a it)
