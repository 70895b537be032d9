-- What follows once a request is decided.
use Rattle.std.{proofs.Common.{◌≡◌, ◌⊎◌, ℕ, List, ◌∷◌, Option, Result, [], inl, inr, subst}, specs.Io.KnownBytes.IsAtEnd}
use Rattle.serve_sockets.specs.{Prelude.{Site, Hall, IsLook, IsDecided, IsAnswered, IsKept, IsOnlyRead, IsTorn, answered_whole, missed_same, unread, site_of, store_of, Answer, Unavailable, Input, Request, Desk, Ghosts}, Connection.{Moves, Waits}, Serving.{IsRequest, IsStep, IsWaiting}, Turn.Tells, declared.{connection.Connection.Connection, serving.Step.Step, turn.Handover.Handover}}

module _ {S T : Type 0} (g : Ghosts S) (old new : S) (site : Site) (moment : ℕ) (fresh : List ℕ) where
  -- the answer that waits for a decided request is that to all that the client sends
  whole_request : (read all : List ℕ) (connection : Connection T) (rest after : Option (List ℕ)) (handover : Handover) → Moves rest after read all → (IsAtEnd after ⊎ IsDecided all)
      → IsWaiting g old new site moment fresh all connection handover → IsRequest g old new site moment fresh read rest connection handover
  whole_request read all connection rest after handover moves ends it = record {
    octets = all;
    said = it.said;
    tells = it.tells;
    answered = it.answered;
    whole = answered_whole g old new site moment fresh read moves.octets all rest after it.said moves.consumed moves.kept ends it.answered;
    waits = it.waits;
  }

-- likewise of a step
pub whole_step : {S T : Type 0} (g : Ghosts S) (old new : Desk S) (moment : ℕ) (fresh : List ℕ) (s : Step) (read all : List ℕ) (connection : Connection T) (rest after : Option (List ℕ))
    → Moves rest after read all → (IsAtEnd after ⊎ IsDecided all)
    → IsStep g old new (IsWaiting g (store_of old) (store_of new) (site_of old) moment fresh all connection) s
    → IsStep g old new (IsRequest g (store_of old) (store_of new) (site_of old) moment fresh read rest connection) s
whole_step g old new moment fresh (Step.Handed handover) read all connection rest after moves ends it = record {
  kept = it.kept;
  did = λ clean.
      whole_request g (store_of old) (store_of new) (site_of old) moment fresh read all connection rest after handover moves ends (it.did clean);
}
whole_step g old new moment fresh s read all connection rest after moves ends it = record { kept = it.kept; did = it.did }

-- what a look leaves of a store
pub read_by_look : {S Y E : Type 0} (g : Ghosts S) (old new : S) (r : Result Y E) (Right : Hall → Y → Type 0)
    → IsLook g old new r Right → IsOnlyRead g old new
read_by_look g old new r Right it = record { same = it.same; stop = it.crash; base = it.base }

module _ {S : Type 0} (g : Ghosts S) (old mid new : S) (site : Site) (what : Input) (moment : ℕ) (fresh : List ℕ)
    (only : IsOnlyRead g old mid) where
  kept_after : (h : Hall) (a : Answer) → g.holds old h → IsKept g mid new site what moment fresh h a → IsKept g old new site what moment fresh h a
  kept_after h a held it = record {
    next = it.next;
    come = it.come;
    held = it.held;
    sound = it.sound;
    settled = λ left. it.settled (only.stop h held (h ∷ []) left);
  }

  torn_after : (h : Hall) (hs : List Hall) → IsTorn g mid new site what moment fresh h hs → IsTorn g old new site what moment fresh h hs
  torn_after h hs it = record { next = it.next; answer = it.answer; step = it.step; left = it.left }

  -- what was answered after the store was read is an answer over the store before
  pub answered_after : (a : Answer) → IsAnswered g mid new site what moment fresh a → IsAnswered g old new site what moment fresh a
  answered_after a it = record {
    step = λ h held sound. elim (it.step h (only.same h held) sound) [ inl kept ↦ inl (kept_after h a held kept) | inr missed ↦ inr missed ];
    idle = λ h held none. it.idle h (only.same h held) none;
    still = λ h held none hs left. it.still h (only.same h held) none hs (only.stop h held hs left);
    unavailable = λ is h held. it.unavailable is h (only.same h held);
    crash = λ h held sound hs left. torn_after h hs (it.crash h (only.same h held) sound hs (only.stop h held hs left));
    base = λ base over. it.base base (only.base base over);
  }

-- a request that waits for its answer after the store was read
pub waiting_after : {S T : Type 0} (g : Ghosts S) (old mid new : S) (from site : Site) (moment : ℕ) (fresh : List ℕ)
    (octets : List ℕ) (connection : Connection T) (handover : Handover) → from ≡ site → IsOnlyRead g old mid → IsWaiting g mid new from moment fresh octets connection handover
    → IsWaiting g old new site moment fresh octets connection handover
waiting_after g old mid new from site moment fresh octets connection handover same only it =
    let here : IsWaiting g mid new site moment fresh octets connection handover =
    subst (λ (at : Site). IsWaiting g mid new at moment fresh octets connection handover) same it in
    record {
      said = here.said;
      tells = here.tells;
      answered = answered_after g old mid new site (Request octets) moment fresh only here.said here.answered;
      waits = here.waits;
    }

-- a request that is refused for want of memory counts as not having come
pub refused_waiting : {S T : Type 0} (g : Ghosts S) → ((s : S) (h : Hall) (hs : List Hall) → g.leaves s hs → g.leaves s (h ∷ hs))
    → (s : S) (site : Site) (moment : ℕ) (fresh octets : List ℕ) (connection : Connection T) (handover : Handover)
    → Tells handover (Request octets) Unavailable → Waits connection octets Unavailable
    → IsWaiting g s s site moment fresh octets connection handover
refused_waiting g wider s site moment fresh octets connection handover tells waits = record {
  said = Unavailable;
  tells = tells;
  answered = missed_same g wider s site moment fresh (Request octets);
  waits = waits;
}

-- likewise of one of which some was read
pub refused_request : {S T : Type 0} (g : Ghosts S) → ((s : S) (h : Hall) (hs : List Hall) → g.leaves s hs → g.leaves s (h ∷ hs))
    → (s : S) (site : Site) (moment : ℕ) (fresh : List ℕ) (read octets : List ℕ) (connection : Connection T) (rest : Option (List ℕ)) (handover : Handover)
    → Tells handover (Request octets) Unavailable → Waits connection octets Unavailable
    → IsRequest g s s site moment fresh read rest connection handover
refused_request g wider s site moment fresh read octets connection rest handover tells waits = record {
  octets = octets;
  said = Unavailable;
  tells = tells;
  answered = missed_same g wider s site moment fresh (Request octets);
  whole = unread g wider s site moment fresh read rest;
  waits = waits;
}
