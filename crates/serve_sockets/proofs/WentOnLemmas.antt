-- How the hall goes on by turns.
use Rattle.std.proofs.Common.{◌≡◌, ◌≤◌, ◌+◌, ℕ, List, [], ◌∷◌, ◌++◌, Option, Some, None, arith, inl, inr, length, length-append, refl, subst, sym}
use Rattle.serve_sockets.specs.{Prelude.{Site, IsOnlyRead, TcpStream, Answer, read_same, AreHistoryLaws, after_run, run_given, run_stop, site_of, store_of, has_run_none, has_run_one, has_run_then, Arrival, Stamp, Desk, Ghosts}, Own.{AreOwn, IsAnswerIn, IsAnswerTo, NoAnswers, first, later}, Stamps.{AreStamped, IsPassed, ended, handed, passed}, Turn.{AreServed, Did, HandsNothing, IsHanded, WentOn}, declared.{connection.Connection.Connection, turn.{Handover.Handover, Tick.Tick, Turn.Turn}}}
use Rattle.serve_sockets.proofs.OwnLemmas.{none_new, same_answers}

module _ {C : Type 0} (gives : C → Option Tick → C → Type 0) where
  pub stamped_then : {c d e : C} {xs ys : List Arrival} → AreStamped gives c xs d → AreStamped gives d ys e → AreStamped gives c (xs ++ ys) e
  stamped_then ended more = more
  stamped_then (passed gave rest) more = passed gave (stamped_then rest more)
  stamped_then (handed gave moment fresh rest) more = handed gave moment fresh (stamped_then rest more)

  -- the source was asked how long the turn waits, or not
  pub stamped_from : (c d e : C) (xs : List Arrival) → IsPassed gives c d → AreStamped gives d xs e → AreStamped gives c xs e
  stamped_from c d e xs (inl same) rest = subst (λ (from : C). AreStamped gives from xs e) same rest
  stamped_from c d e xs (inr gave) rest = passed gave rest

-- ---- whose answers they are

-- one that was answered
pub one_own : (slots slots' : List (Option (Connection TcpStream))) (arrival : Arrival) (said : Answer) → IsAnswerTo slots slots' arrival.input said → AreOwn slots slots' (arrival ∷ []) (said ∷ [])
one_own slots slots' arrival said own = λ number octets a has. elim (own number octets a has) [
  | inl had ↦ inl had
  | inr is ↦ inr (subst (λ (b : Answer). IsAnswerIn octets a (arrival ∷ []) (b ∷ [])) (sym is.1) (first is.0))
]

in_first : (octets : List ℕ) (a : Answer) (xs ys : List Arrival) (answers more : List Answer) → IsAnswerIn octets a xs answers → IsAnswerIn octets a (xs ++ ys) (answers ++ more)
in_first octets a [] ys answers more it = elim it [ ]
in_first octets a (x ∷ xs) ys [] more it = elim it [ ]
in_first octets a (x ∷ xs) ys (b ∷ bs) more (first is) = first is
in_first octets a (x ∷ xs) ys (b ∷ bs) more (later it) = later (in_first octets a xs ys bs more it)

in_rest : (octets : List ℕ) (a : Answer) (xs ys : List Arrival) (answers more : List Answer) → length answers ≡ length xs → IsAnswerIn octets a ys more → IsAnswerIn octets a (xs ++ ys) (answers ++ more)
in_rest octets a [] ys [] more paired it = it
in_rest octets a [] ys (b ∷ bs) more paired it = absurd (omega (arith, paired))
in_rest octets a (x ∷ xs) ys [] more paired it = absurd (omega (arith, paired))
in_rest octets a (x ∷ xs) ys (b ∷ bs) more paired it = later (in_rest octets a xs ys bs more (omega (arith, paired)) it)

own_then : (slots mid slots' : List (Option (Connection TcpStream))) (xs ys : List Arrival) (answers more : List Answer) → length answers ≡ length xs
    → AreOwn slots mid xs answers → AreOwn mid slots' ys more → AreOwn slots slots' (xs ++ ys) (answers ++ more)
own_then slots mid slots' xs ys answers more paired one other = λ number octets a has. elim (other number octets a has) [
  | inl before ↦ elim (one number octets a before) [ inl had ↦ inl had | inr put ↦ inr (in_first octets a xs ys answers more put) ]
  | inr put ↦ inr (in_rest octets a xs ys answers more paired put)
]

-- ---- turns

module _ {S C : Type 0} (g : Ghosts S) (gives : C → Option Tick → C → Type 0) where
  -- no turn was served
  pub served_none : (s : S) (c : C) (site : Site) (most : ℕ) (slots : List (Option (Connection TcpStream))) → AreServed g gives s s c c site most slots slots
  served_none s c site most slots = record {
    arrivals = [];
    answers = [];
    few = omega arith;
    paired = refl;
    stamped = ended;
    run = λ h held sound. has_run_none g site h s s (read_same g s) held sound;
    own = none_new slots slots _ (same_answers slots slots refl);
  }

  -- what took so many turns at most took no more than any larger number of them
  pub served_within : (old new : S) (source source' : C) (site : Site) (m n : ℕ) (slots slots' : List (Option (Connection TcpStream))) → m ≤ n
      → AreServed g gives old new source source' site m slots slots' → AreServed g gives old new source source' site n slots slots'
  served_within old new source source' site m n slots slots' within it = record {
    arrivals = it.arrivals;
    answers = it.answers;
    few = omega (arith, it.few, within);
    paired = it.paired;
    stamped = it.stamped;
    run = it.run;
    own = it.own;
  }

  -- some turns, and then some more
  pub served_then : (old mid new : S) (c d e : C) (from site : Site) (m n : ℕ) (slots between slots' : List (Option (Connection TcpStream))) → from ≡ site
      → AreServed g gives old mid c d site m slots between → AreServed g gives mid new d e from n between slots' → AreServed g gives old new c e site (m + n) slots slots'
  served_then old mid new c d e from site m n slots between slots' same begin then =
      let more : AreServed g gives mid new d e site n between slots' = subst (λ (at : Site). AreServed g gives mid new d e at n between slots') same then in
      record {
        arrivals = begin.arrivals ++ more.arrivals;
        answers = begin.answers ++ more.answers;
        few = omega (arith, begin.few, more.few, length-append begin.arrivals more.arrivals);
        paired = omega (arith, begin.paired, more.paired, length-append begin.arrivals more.arrivals, length-append begin.answers more.answers);
        stamped = stamped_then gives begin.stamped more.stamped;
        own = own_then slots between slots' begin.arrivals more.arrivals begin.answers more.answers begin.paired begin.own more.own;
        run = λ h held sound.
            let before = begin.run h held sound in
            has_run_then g site h old mid new begin.arrivals more.arrivals begin.answers more.answers before
            (more.run before.ran.end before.ran.held before.ran.sound);
      }

  -- connections were closed or accepted before
  pub served_after : (old new : S) (c e : C) (site : Site) (most : ℕ) (slots mid slots' : List (Option (Connection TcpStream))) → NoAnswers slots mid
      → AreServed g gives old new c e site most mid slots' → AreServed g gives old new c e site most slots slots'
  served_after old new c e site most slots mid slots' none it = record {
    arrivals = it.arrivals;
    answers = it.answers;
    few = it.few;
    paired = it.paired;
    stamped = it.stamped;
    run = it.run;
    own = λ number octets a has. elim (it.own number octets a has) [ inl before ↦ inl (none number octets a before) | inr is ↦ inr is ];
  }

  -- the source gave no stamp
  pub served_unstamped : (s : S) (c d e : C) (site : Site) (slots slots' : List (Option (Connection TcpStream))) → NoAnswers slots slots' → IsPassed gives c d → gives d None e
      → AreServed g gives s s c e site 1 slots slots'
  served_unstamped s c d e site slots slots' none waited missed = record {
    arrivals = [];
    answers = [];
    few = omega arith;
    paired = refl;
    own = none_new slots slots' _ none;
    stamped = stamped_from gives c d e [] waited (passed missed ended);
    run = λ h held sound. has_run_none g site h s s (read_same g s) held sound;
  }

  module _ (old new : S) (c d e : C) (site : Site) (slots slots' : List (Option (Connection TcpStream))) (waited : IsPassed gives c d) (tick : Tick) (gave : gives d (Some tick) e) where
    -- one arrival was handed to the desk
    served_by : (handover : Handover) → IsHanded g old new site slots slots' tick.stamp.moment tick.stamp.fresh handover → AreServed g gives old new c e site 1 slots slots'
    served_by handover it =
        let arrival : Arrival = record { moment = tick.stamp.moment; fresh = tick.stamp.fresh; input = it.what } in
        record {
          arrivals = arrival ∷ [];
          answers = it.said ∷ [];
          few = omega arith;
          paired = refl;
          stamped = stamped_from gives c d e (arrival ∷ []) waited (handed gave refl refl ended);
          run = λ h held sound. has_run_one g site h old new arrival it.said it.answered held sound;
          own = one_own slots slots' arrival it.said it.own;
        }

    -- nothing came, and the store was only read
    served_reading : IsOnlyRead g old new → NoAnswers slots slots' → AreServed g gives old new c e site 1 slots slots'
    served_reading only none = record {
      arrivals = [];
      answers = [];
      few = omega arith;
      paired = refl;
      stamped = stamped_from gives c d e [] waited (passed gave ended);
      run = λ h held sound. has_run_none g site h old new only held sound;
      own = none_new slots slots' _ none;
    }

  -- one turn
  pub served_one : (old new : Desk S) (c d e : C) (slots slots' : List (Option (Connection TcpStream))) (waited : IsPassed gives c d) (tick : Tick) (gave : gives d (Some tick) e) (t : Turn)
      → g.is_clean (store_of new) → Did g old new slots slots' tick.stamp t → AreServed g gives (store_of old) (store_of new) c e (site_of old) 1 slots slots'
  served_one old new c d e slots slots' waited tick gave (Turn.Handed handover) clean it =
      served_by (store_of old) (store_of new) c d e (site_of old) slots slots' waited tick gave handover (it clean)
  served_one old new c d e slots slots' waited tick gave (Turn.Unsent handover) clean it =
      served_by (store_of old) (store_of new) c d e (site_of old) slots slots' waited tick gave handover (it clean)
  served_one old new c d e slots slots' waited tick gave (Turn.PutOff from) clean it =
      served_reading (store_of old) (store_of new) c d e (site_of old) slots slots' waited tick gave (it.0 clean) it.1
  served_one old new c d e slots slots' waited tick gave t clean it =
      served_reading (store_of old) (store_of new) c d e (site_of old) slots slots' waited tick gave
      (subst (λ (desk : Desk S). IsOnlyRead g (store_of old) (store_of desk)) (sym it.0) (read_same g (store_of old))) it.1

-- a turn that handed nothing over left the desk as it was
pub did_nothing : {S : Type 0} (g : Ghosts S) (old new : Desk S) (slots slots' : List (Option (Connection TcpStream))) (stamp : Stamp) (t : Turn) → HandsNothing t
    → Did g old new slots slots' stamp t → (new ≡ old) × NoAnswers slots slots'
did_nothing g old new slots slots' stamp (Turn.Handed handover) nothing did = absurd nothing
did_nothing g old new slots slots' stamp (Turn.Unsent handover) nothing did = absurd nothing
did_nothing g old new slots slots' stamp (Turn.PutOff from) nothing did = absurd nothing
did_nothing g old new slots slots' stamp t nothing did = did

-- what the turns make of what came to the hall since it was new
pub went_on : AreHistoryLaws → {S C : Type 0} (g : Ghosts S) (gives : C → Option Tick → C → Type 0) (old new : S) (source source' : C) (site : Site) (most : ℕ)
    (slots slots' : List (Option (Connection TcpStream))) → AreServed g gives old new source source' site most slots slots' → WentOn g gives old new source source' site most slots slots'
went_on its g gives old new source source' site most slots slots' it = record {
  served = it;
  history = λ origin past was. after_run its g old new site origin past was it.arrivals it.answers (λ h held sound. (it.run h held sound).ran);
  settled = λ origin past was. run_given its g old new site origin past was it.arrivals it.answers it.run;
  stop = λ origin past was. run_stop its g old new site origin past was it.arrivals it.answers it.run;
}
