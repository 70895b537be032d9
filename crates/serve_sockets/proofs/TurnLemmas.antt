-- What turns do with the desk, and when one is a quiet moment.
use Rattle.std.proofs.{Common.{◌≡◌, ◌≢◌, ◌<◌, ◌+◌, ◌%◌, ◌∙◌, ℕ, Bool, true, false, ◌&&◌, ◌||◌, List, Option, ap, arith, inl, inr, refl, subst, sym}, lemmas.Bool.false≢true}
use Rattle.serve_sockets.specs.{Prelude.{TcpStream, site_of, store_of, Answer, Request, Stamp, Desk, Ghosts}, Connection.number_of, Own.{IsInAfter, IsOut, NoAnswers}, Service.{IsPaced, is_opening_of, turns_of}, Serving.{HoldsOn, IsOnlyMoved, IsRequest, IsStep, IsTurnOf}, Turn.{HandsNothing, IsHanded, IsOfDatagram, IsTurn, KeepsDesk, is_unavailable, said_of}, declared.{connection.Connection.Connection, service.Service.Service, serving.Step.Step, turn.{Handover.Handover, Kind.Kind, Said.Said, Turn.Turn}}}
use Rattle.serve_sockets.proofs.OwnLemmas.{answers_then, put_answered, put_kept}

-- ---- what is done with the desk

module _ {S : Type 0} (g : Ghosts S) where
  pub keeps_same : (desk : Desk S) → KeepsDesk g desk desk
  keeps_same desk = record { clean = λ clean. clean; site = refl; enlists = refl; closed = λ clean closed. closed }

  pub keeps_then : (old mid new : Desk S) → KeepsDesk g old mid → KeepsDesk g mid new → KeepsDesk g old new
  keeps_then old mid new first then = record {
    clean = λ clean. first.clean (then.clean clean);
    site = then.site ∙ first.site;
    enlists = then.enlists ∙ first.enlists;
    closed = λ clean closed. then.closed clean (first.closed (then.clean clean) closed);
  }

  handed_after : (old new : Desk S) (slots mid slots' : List (Option (Connection TcpStream))) (stamp : Stamp) (handover : Handover) → NoAnswers slots mid
      → IsHanded g (store_of old) (store_of new) (site_of old) mid slots' stamp.moment stamp.fresh handover
      → IsHanded g (store_of old) (store_of new) (site_of old) slots slots' stamp.moment stamp.fresh handover
  handed_after old new slots mid slots' stamp handover none it = record {
    what = it.what;
    said = it.said;
    tells = it.tells;
    answered = it.answered;
    own = λ number octets a has. elim (it.own number octets a has) [ inl before ↦ inl (none number octets a before) | inr is ↦ inr is ];
  }

  -- a turn that hands nothing over
  pub nothing_handed : (desk : Desk S) (slots slots' : List (Option (Connection TcpStream))) (stamp : Stamp) (t : Turn) → HandsNothing t → NoAnswers slots slots'
      → IsTurn g desk desk slots slots' stamp t
  nothing_handed desk slots slots' stamp (Turn.Handed handover) nothing none = absurd nothing
  nothing_handed desk slots slots' stamp (Turn.Unsent handover) nothing none = absurd nothing
  nothing_handed desk slots slots' stamp (Turn.PutOff from) nothing none = absurd nothing
  nothing_handed desk slots slots' stamp t nothing none = record { kept = keeps_same desk; did = (refl, none); unlisted = λ off frame. absurd frame }

  -- a turn before which connections were closed or accepted
  pub turn_after : (old new : Desk S) (slots mid slots' : List (Option (Connection TcpStream))) (stamp : Stamp) (t : Turn) → NoAnswers slots mid → IsTurn g old new mid slots' stamp t
      → IsTurn g old new slots slots' stamp t
  turn_after old new slots mid slots' stamp (Turn.Handed handover) none it =
      record { kept = it.kept; did = λ clean. handed_after old new slots mid slots' stamp handover none (it.did clean); unlisted = it.unlisted }
  turn_after old new slots mid slots' stamp (Turn.Unsent handover) none it =
      record { kept = it.kept; did = λ clean. handed_after old new slots mid slots' stamp handover none (it.did clean); unlisted = it.unlisted }
  turn_after old new slots mid slots' stamp (Turn.PutOff from) none it =
      record { kept = it.kept; did = (it.did.0, answers_then slots mid slots' none it.did.1); unlisted = it.unlisted }
  turn_after old new slots mid slots' stamp t none it =
      record { kept = it.kept; did = (it.did.0, answers_then slots mid slots' none it.did.1); unlisted = it.unlisted }

  -- a step that hands nothing over
  pub only_moved : (desk : Desk S) (P : Handover → Type 0) (s : Step) → IsOnlyMoved s → IsStep g desk desk P s
  only_moved desk P (Step.Handed handover) moved = absurd moved
  only_moved desk P Step.PutOff moved = absurd moved
  only_moved desk P Step.Decided moved = absurd moved
  only_moved desk P s moved = record { kept = keeps_same desk; did = refl }

  -- what the step did is what the turn did
  pub step_turn : (old new : Desk S) (stamp : Stamp) (read : List ℕ) (rest : Option (List ℕ)) (s : Step) (t : Turn)
      (slots mid slots' : List (Option (Connection TcpStream))) (slot : ℕ) (was connection : Connection TcpStream) → IsOut slots mid slot was → number_of connection ≡ number_of was
      → HoldsOn s was connection → IsInAfter mid slots' s slot connection → IsTurnOf s t
      → IsStep g old new (IsRequest g (store_of old) (store_of new) (site_of old) stamp.moment stamp.fresh read rest connection) s → IsTurn g old new slots slots' stamp t
  step_turn old new stamp read rest (Step.Handed handover) t slots mid slots' slot was connection out numbered own put same it =
      subst (λ (made : Turn). IsTurn g old new slots slots' stamp made) (sym same) (record {
        kept = it.kept;
        did = λ clean.
            let asked = it.did clean in
            record {
              what = Request asked.octets;
              said = asked.said;
              tells = asked.tells;
              answered = asked.answered;
              own = put_answered slots mid slots' slot was connection out asked.octets asked.said asked.waits put;
            };
        unlisted = λ off frame clean. absurd (subst IsOfDatagram (it.did clean).tells.kind frame);
      })
  step_turn old new stamp read rest Step.PutOff (Turn.PutOff from) slots mid slots' slot was connection out numbered own put off it =
      record { kept = it.kept; did = (it.did, put_kept slots mid slots' slot was connection out numbered own put); unlisted = λ off frame. absurd frame }
  step_turn old new stamp read rest Step.PutOff t slots mid slots' slot was connection out numbered own put off it = absurd off
  step_turn old new stamp read rest s t slots mid slots' slot was connection out numbered own put nothing it =
      subst (λ (desk : Desk S). IsTurn g old desk slots slots' stamp t) (sym it.did)
      (nothing_handed old slots slots' stamp t nothing (put_kept slots mid slots' slot was connection out numbered own put))

-- ---- when a turn is a quiet moment

-- whether it is said that an arrival counts as not having come
abbrev is_told : Said → Bool
is_told Said.Unavailable = true
is_told other = false

-- an answer of which that is said is Unavailable
pub told_unavailable : (a : Answer) → said_of a ≡ Said.Unavailable → is_unavailable a ≡ true
told_unavailable Answer.Unavailable same = refl
told_unavailable other same = ap is_told same

still_by : (is moved : Bool) → is && (moved || true) ≡ is
still_by true true = refl
still_by true false = refl
still_by false moved = refl

-- a quiet moment that is Unavailable ends no beginning
pub still_opening : (is moved unavailable : Bool) → unavailable ≡ true → is && (moved || unavailable) ≡ is
still_opening is moved unavailable told = subst (λ (b : Bool). is && (moved || b) ≡ is) (sym told) (still_by is moved)

-- a turn that isn't the eighth one doesn't come after the seventh
not_eighth : (turns : ℕ) → turns ≡ 7 → (turns + 1) % 8 ≢ 0 → ⊥
not_eighth turns last other = other (ap (λ (n : ℕ). (n + 1) % 8) last)

-- turns are counted up to seven
pub turns_within : (turns : ℕ) → (turns + 1) % 8 < 8
turns_within turns = omega arith

module _ {S : Type 0} (old new : Service S) where
  -- a turn that is a quiet moment
  pub quiet_pace : (handover : Handover) → handover.kind ≡ Kind.Quiet → turns_of new ≡ (turns_of old + 1) % 8
      → (is_opening_of old ≡ false → is_opening_of new ≡ false) → (handover.said ≡ Said.Unavailable → is_opening_of new ≡ is_opening_of old)
      → IsPaced old new (Turn.Handed handover)
  quiet_pace handover kind counted opened shut = record {
    turns = counted;
    eighth = λ last. kind;
    opening = λ is. kind;
    opened = opened;
    shut = shut;
  }

  -- a turn that need not be one
  pub other_pace : (t : Turn) → is_opening_of old ≡ false → (turns_of old + 1) % 8 ≢ 0 → turns_of new ≡ (turns_of old + 1) % 8
      → is_opening_of new ≡ is_opening_of old → IsPaced old new t
  other_pace t begun other counted same = record {
    turns = counted;
    eighth = λ last. absurd (not_eighth (turns_of old) last other);
    opening = λ is. absurd (false≢true (sym begun ∙ is));
    opened = λ is. same ∙ is;
    shut = λ it. same;
  }
