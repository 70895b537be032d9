-- What becomes of requests that are handed over together.
use Rattle.std.specs.{Prelude.{slice_get, slice_set, ◌⊎◌}, List.AllByRecursion}
use Rattle.std.proofs.{Common.{◌≡◌, ◌≢◌, ◌<◌, ◌≤◌, ◌+◌, ◌∙◌, ℕ, zero, suc, List, [], ◌∷◌, ◌++◌, Option, Some, None, append-nil, length, length-append, map, take, arith, ap, inl, inr, refl, subst, sym}, lemmas.{List.{length-map, length-take, length-take-le, map-append}, Option.slice_get_within}}
use Rattle.serve_sockets.specs.{Prelude.{Site, Hall, IsSound, IsOnlyRead, TcpStream, Answer, Arrival, Input, Request, Desk, Ghosts, HasGroupRun, HasNoRun, first_of, has_run_none, has_run_one, missed_answer, missed_answers, read_same, run_of_group, run_of_none, site_of, store_of}, Connection.input_of, Gathering.{AreApart, AreGiven, AreHanded, AreIn, AreOf, AreOut, AreRequests, IsGathered, IsHandedAs, IsOfRequest, OthersStay}, Own.{IsFreed, IsInOrClosed, IsOut, IsPart}, Stamps.{AreStamped, IsPassed, ended, handed, passed}, Turn.{AreServed, IsHandedAlone}, declared.{connection.Connection.Connection, gathering.{Client.Client, Gathered.Gathered}, turn.Tick.Tick}}
use Rattle.serve_sockets.proofs.{GivenLemmas.{group_back, group_own}, OwnLemmas.{flipped, get_set_other, get_set_same, is_same, none_new, part_same, part_then, set_free_part, some_same}, WentOnLemmas.{one_own, stamped_from, stamped_then}}

-- ---- requests

octets_in : (what : Input) → IsOfRequest what → (octets : List ℕ) × (what ≡ Request octets)
octets_in (Request octets) is = (octets, refl)
octets_in other is = absurd is

pub are_requests : (clients : List Client) (arrivals : List Arrival) → AreOf clients arrivals → AreRequests arrivals
are_requests clients [] paired = tt
are_requests [] (x ∷ xs) paired = absurd cc
are_requests (client ∷ clients) (x ∷ xs) paired = (first (heads paired), are_requests clients xs (tails paired))
  where
    heads : map (λ arrival. arrival.input) (x ∷ xs) ≡ map (λ c. Request (input_of c.connection)) (client ∷ clients) → x.input ≡ Request (input_of client.connection)
    heads is = cc

    tails : map (λ arrival. arrival.input) (x ∷ xs) ≡ map (λ c. Request (input_of c.connection)) (client ∷ clients)
        → map (λ arrival. arrival.input) xs ≡ map (λ c. Request (input_of c.connection)) clients
    tails is = cc

    first : x.input ≡ Request (input_of client.connection) → IsOfRequest x.input
    first is = subst IsOfRequest (sym is) tt

-- ---- none of them came

module _ {S : Type 0} (g : Ghosts S) (old new : S) (site : Site) where
  pub all_refused : (xs : List Arrival) → 0 < length xs → AreRequests xs → ((h : Hall) → g.holds old h → IsSound h → HasNoRun g old new site h xs)
      → IsHandedAs g old new site xs (missed_answers xs)
  all_refused [] some all none = absurd (omega (arith, some))
  all_refused (x ∷ xs) some all none = λ h held sound.
      let what = octets_in x.input all.0 in
      run_of_none g old new site h sound x xs what.0 what.1 (none h held sound)

  -- none was answered, and nothing came
  none_run : (h : Hall) (x : Arrival) → HasGroupRun g old new site h [] [] → HasNoRun g old new site h (x ∷ [])
  none_run h x it = record {
    end = h;
    together = ([], tt, refl);
    held = subst (g.holds new) it.ran.run it.ran.held;
    stop = λ hs left. subst (λ (end : Hall). g.leaves new (end ∷ h ∷ hs)) it.ran.run (it.stop hs left);
  }

  first_refused : (xs : List Arrival) → 0 < length xs → AreRequests xs → ((h : Hall) → g.holds old h → IsSound h → HasGroupRun g old new site h (take 0 xs) [])
      → IsHandedAs g old new site (take 1 xs) (missed_answers (take 1 xs))
  first_refused [] some all none = absurd (omega (arith, some))
  first_refused (x ∷ xs) some all none = all_refused (x ∷ []) (omega arith) (all.0, tt) (λ h held sound. none_run h x (none h held sound))

  pub none_answered : (xs : List Arrival) → 0 < length xs → AreRequests xs → (answers : List Answer) → length answers ≡ 0
      → ((h : Hall) → g.holds old h → IsSound h → HasGroupRun g old new site h (first_of xs answers) answers) → IsHandedAs g old new site (take 1 xs) (missed_answers (take 1 xs))
  none_answered xs some all [] none run = first_refused xs some all run
  none_answered xs some all (a ∷ answers) none run = absurd (omega (arith, none))

  pub group_handed : (xs : List Arrival) (answers : List Answer) → ((h : Hall) → g.holds old h → IsSound h → HasGroupRun g old new site h xs answers)
      → IsHandedAs g old new site xs answers
  group_handed xs answers it = λ h held sound. run_of_group g old new site h xs answers (it h held sound)

-- ---- stamps

module _ {C : Type 0} (gives : C → Option Tick → C → Type 0) where
  -- the stamps of arrivals that weren't handed over were given too
  pub stamped_none : {c e : C} {xs : List Arrival} → AreStamped gives c xs e → AreStamped gives c [] e
  stamped_none ended = ended
  stamped_none (passed gave rest) = passed gave (stamped_none rest)
  stamped_none (handed gave moment fresh rest) = passed gave (stamped_none rest)

  pub stamped_first : {c e : C} {xs : List Arrival} → AreStamped gives c xs e → (n : ℕ) → AreStamped gives c (take n xs) e
  stamped_first ended zero = ended
  stamped_first ended (suc n) = ended
  stamped_first (passed gave rest) n = passed gave (stamped_first rest n)
  stamped_first (handed gave moment fresh rest) zero = passed gave (stamped_none rest)
  stamped_first (handed gave moment fresh rest) (suc n) = handed gave moment fresh (stamped_first rest n)

  pub stamped_more : {c d e : C} {xs : List Arrival} (x : Arrival) (tick : Tick) → AreStamped gives c xs d → gives d (Some tick) e → x.moment ≡ tick.stamp.moment → x.fresh ≡ tick.stamp.fresh
      → AreStamped gives c (xs ++ x ∷ []) e
  stamped_more x tick before gave moment fresh = stamped_then gives before (handed gave moment fresh ended)

-- ---- what was served

module _ {S C : Type 0} (g : Ghosts S) (gives : C → Option Tick → C → Type 0) (old new : S) (site : Site) (slots slots' : List (Option (Connection TcpStream))) where
  -- with what the source gave before
  pub served_from : (c d e : C) (most : ℕ) → IsPassed gives c d → AreServed g gives old new d e site most slots slots' → AreServed g gives old new c e site most slots slots'
  served_from c d e most waited it = record {
    arrivals = it.arrivals;
    answers = it.answers;
    few = it.few;
    paired = it.paired;
    stamped = stamped_from gives c d e it.arrivals waited it.stamped;
    run = it.run;
    own = it.own;
  }

  module _ (tick : Tick) (from till : C) (gave : gives from (Some tick) till) where
    -- a request alone, and then the source gave stamps that weren't used
    pub served_alone : (e : C) → AreStamped gives till [] e → IsHandedAlone g old new site slots slots' tick.stamp → AreServed g gives old new from e site 64 slots slots'
    served_alone e more (inl none) = record {
      arrivals = [];
      answers = [];
      few = omega arith;
      paired = refl;
      stamped = passed gave more;
      run = λ h held sound. has_run_none g site h old new (subst (IsOnlyRead g old) (sym none.0) (read_same g old)) held sound;
      own = none_new slots slots' _ none.1;
    }
    served_alone e more (inr it) =
        let arrival : Arrival = record { moment = tick.stamp.moment; fresh = tick.stamp.fresh; input = Request (input_of it.client.connection) } in
        record {
          arrivals = arrival ∷ [];
          answers = it.said ∷ [];
          few = omega arith;
          paired = refl;
          stamped = handed gave refl refl more;
          run = λ h held sound. has_run_one g site h old new arrival it.said it.answered held sound;
          own = one_own slots slots' arrival it.said it.own;
        }

    -- requests together, after a stamp
    pub served_together : (e : C) (mid : List (Option (Connection TcpStream))) (alone : ℕ) (gathered : Gathered) → IsGathered gives till e slots mid 64 gathered → IsPart slots mid
        → AreHanded g old new site gathered mid slots' alone → AreServed g gives old new from e site 64 slots slots'
    served_together e mid alone gathered its part it = record {
      arrivals = take (length it.answers) gathered.arrivals.items;
      answers = it.answers;
      few = omega (arith, its.few, length-take (length it.answers) gathered.arrivals.items);
      paired = sym (length-take-le (length it.answers) gathered.arrivals.items it.few);
      stamped = passed gave (stamped_first gives its.stamped (length it.answers));
      run = it.handed;
      own = elim it.all [
        | inl all ↦ group_own slots mid slots' gathered.clients.items part its.were it.others gathered.arrivals.items it.answers its.paired
            (subst (AreGiven slots' gathered.clients.items) all.0 it.clients)
        | inr none ↦ none_new slots slots' _ (group_back slots mid slots' gathered.clients.items part its.were it.others (subst (AreGiven slots' gathered.clients.items) none.0 it.clients))
      ];
    }

-- ---- gathering

-- the slot that a client was taken out of is none of those that are out already
out_apart : (slots : List (Option (Connection TcpStream))) (slot : ℕ) (connection : Connection TcpStream) → slice_get slots slot ≡ Some (Some connection) → (ys : List Client) → AreOut slots ys
    → AllByRecursion (λ y. slot ≢ y.slot) ys
out_apart slots slot connection held [] out = tt
out_apart slots slot connection held (y ∷ ys) out = (λ is. clash (slice_get slots slot) held (subst (λ (k : ℕ). slice_get slots k ≡ Some None) (sym is) out.0), out_apart slots slot connection held ys out.1)
  where
    clash : (o : Option (Option (Connection TcpStream))) → o ≡ Some (Some connection) → o ≡ Some None → ⊥
    clash o some none = absurd cc

module _ (slots mid : List (Option (Connection TcpStream))) (slot : ℕ) (connection : Connection TcpStream) (took : IsOut slots mid slot connection) where
  out_then : (ys : List Client) → AreOut slots ys → AllByRecursion (λ y. slot ≢ y.slot) ys → AreOut mid ys
  out_then [] out apart = tt
  out_then (y ∷ ys) out apart =
      (ap (λ (xs : List (Option (Connection TcpStream))). slice_get xs y.slot) took.1 ∙ (get_set_other slots slot y.slot None (flipped slot y.slot apart.0) ∙ out.0), out_then ys out.1 apart.1)

  pub took_part : IsPart slots mid
  took_part = set_free_part slots mid slot took.1

  took_free : slice_get mid slot ≡ Some None
  took_free = ap (λ (xs : List (Option (Connection TcpStream))). slice_get xs slot) took.1 ∙ get_set_same slots slot None (slice_get_within slots slot (Some connection) took.0)

  -- it was put back, or closed
  module _ (slots' : List (Option (Connection TcpStream))) where
    back_out : IsInOrClosed mid slots' slot connection → (ys : List Client) → AreOut mid ys → AllByRecursion (λ y. slot ≢ y.slot) ys → AreOut slots' ys
    back_out (inr closed) ys out apart = subst (λ (xs : List (Option (Connection TcpStream))). AreOut xs ys) (sym closed) out
    back_out (inl put) [] out apart = tt
    back_out (inl put) (y ∷ ys) out apart =
        (ap (λ (xs : List (Option (Connection TcpStream))). slice_get xs y.slot) put ∙ (get_set_other mid slot y.slot (Some connection) (flipped slot y.slot apart.0) ∙ out.0), back_out (inl put) ys out.1 apart.1)

    pub back_part : IsInOrClosed mid slots' slot connection → IsPart slots slots'
    back_part (inr closed) = part_then slots mid slots' took_part (part_same mid slots' closed)
    back_part (inl put) = λ k held_one held. elim (is_same k slot) [
      | inl is ↦ here k held_one held is
      | inr away ↦ sym (there k away) ∙ held
    ]
      where
        there : (k : ℕ) → k ≢ slot → slice_get slots' k ≡ slice_get slots k
        there k away =
            ap (λ (xs : List (Option (Connection TcpStream))). slice_get xs k) put
            ∙ (get_set_other mid slot k (Some connection) away ∙ (ap (λ (xs : List (Option (Connection TcpStream))). slice_get xs k) took.1 ∙ get_set_other slots slot k None away))

        here : (k : ℕ) (other : Connection TcpStream) → slice_get slots' k ≡ Some (Some other) → k ≡ slot → slice_get slots k ≡ Some (Some other)
        here k other held is =
            let low : slot < length mid = slice_get_within mid slot None took_free in
            let now : slice_get slots' slot ≡ Some (Some connection) = ap (λ (xs : List (Option (Connection TcpStream))). slice_get xs slot) put ∙ get_set_same mid slot (Some connection) low in
            let same : Some connection ≡ Some other = some_same (Some connection) (Some other) (slice_get slots' slot) now (subst (λ (j : ℕ). slice_get slots' j ≡ Some (Some other)) is held) in
            subst (λ (j : ℕ). slice_get slots j ≡ Some (Some other)) (sym is) (took.0 ∙ ap Some same)

module _ {C : Type 0} (gives : C → Option Tick → C → Type 0) (source : C) (slots before now : List (Option (Connection TcpStream))) (most : ℕ) where
  -- none came to it
  pub gathered_same : (till : C) (old : Gathered) → AreOut now old.clients.items → IsGathered gives source till slots before most old → IsGathered gives source till slots now (most + 1) old
  gathered_same till old out it = record {
    stamped = it.stamped;
    few = omega (arith, it.few);
    paired = it.paired;
    were = it.were;
    are = out;
    apart = it.apart;
  }

  -- likewise, and the source gave nothing
  pub gathered_unstamped : (mid till : C) (old : Gathered) → AreOut now old.clients.items → gives mid None till → IsGathered gives source mid slots before most old
      → IsGathered gives source till slots now (most + 1) old
  gathered_unstamped mid till old out gave it = record {
    stamped = rw append-nil at (stamped_then gives it.stamped (passed gave ended));
    few = omega (arith, it.few);
    paired = it.paired;
    were = it.were;
    are = out;
    apart = it.apart;
  }

  -- a request came to it, with a stamp
  pub gathered_more : (mid till : C) (old new : Gathered) (tick : Tick) → gives mid (Some tick) till → (arrival : Arrival) (client : Client)
      → new.arrivals.items ≡ old.arrivals.items ++ arrival ∷ [] → new.clients.items ≡ old.clients.items ++ client ∷ []
      → arrival.moment ≡ tick.stamp.moment → arrival.fresh ≡ tick.stamp.fresh → arrival.input ≡ Request (input_of client.connection)
      → IsPart slots before → IsOut before now client.slot client.connection
      → IsGathered gives source mid slots before most old → IsGathered gives source till slots now (most + 1) new
  gathered_more mid till old new tick gave arrival client arrivals clients moment fresh input part out it = record {
    stamped = rw arrivals (stamped_more gives arrival tick it.stamped gave moment fresh);
    few = omega (arith, it.few, ap length arrivals, length-append old.arrivals.items (arrival ∷ []));
    paired = rw (arrivals, clients) (paired_more old.clients.items old.arrivals.items client arrival it.paired input);
    were = rw clients (all_more (λ c. slice_get slots c.slot ≡ Some (Some c.connection)) old.clients.items client it.were (part client.slot client.connection out.0));
    are = rw clients (all_more (λ c. slice_get now c.slot ≡ Some None) old.clients.items client (out_then before now client.slot client.connection out old.clients.items it.are apart)
        (took_free before now client.slot client.connection out));
    apart = rw clients (apart_more old.clients.items client it.apart apart);
  }
    where
      apart : AllByRecursion (λ y. client.slot ≢ y.slot) old.clients.items
      apart = out_apart before client.slot client.connection out.0 old.clients.items it.are

      all_more : (P : Client → Type 0) (xs : List Client) (x : Client) → AllByRecursion P xs → P x → AllByRecursion P (xs ++ x ∷ [])
      all_more P [] x all more = (more, tt)
      all_more P (y ∷ ys) x all more = (all.0, all_more P ys x all.1 more)

      apart_more : (xs : List Client) (x : Client) → AreApart xs → AllByRecursion (λ y. x.slot ≢ y.slot) xs → AreApart (xs ++ x ∷ [])
      apart_more [] x apart others = (tt, tt)
      apart_more (y ∷ ys) x apart others = (all_more (λ other. other.slot ≢ y.slot) ys x apart.0 others.0, apart_more ys x apart.1 others.1)

      paired_more : (clients : List Client) (arrivals : List Arrival) (client : Client) (arrival : Arrival) → AreOf clients arrivals → arrival.input ≡ Request (input_of client.connection)
          → AreOf (clients ++ client ∷ []) (arrivals ++ arrival ∷ [])
      paired_more clients arrivals client arrival all input =
          map-append (λ a. a.input) arrivals (arrival ∷ [])
          ∙ (ap (λ xs. xs ++ arrival.input ∷ []) all ∙ ap (λ x. map (λ c. Request (input_of c.connection)) clients ++ x ∷ []) input)
          ∙ sym (map-append (λ c. Request (input_of c.connection)) clients (client ∷ []))

-- those that were out before one was taken and put back are out
pub out_after_back : (slots mid slots' : List (Option (Connection TcpStream))) (slot : ℕ) (connection : Connection TcpStream) → IsOut slots mid slot connection
    → IsInOrClosed mid slots' slot connection → (ys : List Client) → AreOut slots ys → AreOut slots' ys
out_after_back slots mid slots' slot connection took put ys out =
    let apart = out_apart slots slot connection took.0 ys out in
    back_out slots mid slot connection took slots' put ys (out_then slots mid slot connection took ys out apart) apart

-- a slot that was free stays so
pub out_after_freed : (slots slots' : List (Option (Connection TcpStream))) → IsFreed slots slots' → (ys : List Client) → AreOut slots ys → AreOut slots' ys
out_after_freed slots slots' (inl same) ys out = subst (λ (xs : List (Option (Connection TcpStream))). AreOut xs ys) (sym same) out
out_after_freed slots slots' (inr freed) [] out = tt
out_after_freed slots slots' (inr freed) (y ∷ ys) out =
    (ap (λ (xs : List (Option (Connection TcpStream))). slice_get xs y.slot) freed.1 ∙ stays (is_same y.slot freed.0), out_after_freed slots slots' (inr freed) ys out.1)
  where
    stays : (y.slot ≡ freed.0) ⊎ (y.slot ≢ freed.0) → slice_get (slice_set slots freed.0 None) y.slot ≡ Some None
    stays (inl is) =
        let low : freed.0 < length slots = slice_get_within slots freed.0 None (subst (λ (k : ℕ). slice_get slots k ≡ Some None) is out.0) in
        subst (λ (k : ℕ). slice_get (slice_set slots freed.0 None) k ≡ Some None) (sym is) (get_set_same slots freed.0 None low)
    stays (inr other) = get_set_other slots freed.0 y.slot None other ∙ out.0

pub none_gathered : {C : Type 0} (gives : C → Option Tick → C → Type 0) (source : C) (slots : List (Option (Connection TcpStream))) (gathered : Gathered) → gathered.arrivals.items ≡ []
    → gathered.clients.items ≡ [] → IsGathered gives source source slots slots 0 gathered
none_gathered gives source slots gathered arrivals clients = record {
  stamped = subst (λ xs. AreStamped gives source xs source) (sym arrivals) ended;
  few = omega (arith, ap length arrivals);
  paired = rw (arrivals, clients) refl;
  were = subst (λ xs. AreIn slots xs) (sym clients) tt;
  are = subst (λ xs. AreOut slots xs) (sym clients) tt;
  apart = subst AreApart (sym clients) tt;
}

-- ---- what was handed over together

module _ {S : Type 0} (g : Ghosts S) (old mid new : Desk S) (gathered : Gathered) (slots slots' : List (Option (Connection TcpStream))) (alone : ℕ) (same : new ≡ mid)
    (seen : List Arrival) (is : seen ≡ gathered.arrivals.items) where
  handed_in : (answers : List Answer) → (g.is_clean (store_of mid) → IsHandedAs g (store_of old) (store_of mid) (site_of old) (take (length answers) seen) answers)
      → g.is_clean (store_of new) → IsHandedAs g (store_of old) (store_of new) (site_of old) (take (length answers) gathered.arrivals.items) answers
  handed_in answers it =
      subst (λ (desk : Desk S). g.is_clean (store_of desk) → IsHandedAs g (store_of old) (store_of desk) (site_of old) (take (length answers) gathered.arrivals.items) answers) (sym same)
      (subst (λ (xs : List Arrival). g.is_clean (store_of mid) → IsHandedAs g (store_of old) (store_of mid) (site_of old) (take (length answers) xs) answers) is it)

  -- each client that was answered was given its own answer
  pub group_given : (answers : List Answer) → length answers ≤ length seen → 0 < length answers
      → (g.is_clean (store_of mid) → IsHandedAs g (store_of old) (store_of mid) (site_of old) (take (length answers) seen) answers)
      → AreGiven slots' gathered.clients.items answers → OthersStay gathered.clients.items slots slots'
      → g.is_clean (store_of new) → AreHanded g (store_of old) (store_of new) (site_of old) gathered slots slots' alone
  group_given answers few some it given others = λ clean. record {
    answers = answers;
    few = subst (λ (xs : List Arrival). length answers ≤ length xs) is few;
    handed = handed_in answers it clean;
    given = answers;
    all = inl (refl, some);
    clients = given;
    others = others;
  }

  -- none was answered
  pub group_separated : (count : ℕ) → count ≤ length seen
      → (g.is_clean (store_of mid) → IsHandedAs g (store_of old) (store_of mid) (site_of old) (take count seen) (missed_answers (take count seen)))
      → AreGiven slots' gathered.clients.items [] → OthersStay gathered.clients.items slots slots' → alone ≡ length gathered.clients.items
      → g.is_clean (store_of new) → AreHanded g (store_of old) (store_of new) (site_of old) gathered slots slots' alone
  group_separated count few it back others all = λ clean.
      let answers = missed_answers (take count seen) in
      let size : length answers ≡ count = length-map (take count seen) (λ arrival. missed_answer arrival.input) ∙ length-take-le count seen few in
      record {
        answers = answers;
        few = subst (λ (xs : List Arrival). length answers ≤ length xs) is (omega (arith, size, few));
        handed = handed_in answers (λ clean'. subst (λ (n : ℕ). IsHandedAs g (store_of old) (store_of mid) (site_of old) (take n seen) answers) (sym size) (it clean')) clean;
        given = [];
        all = inr (refl, all);
        clients = back;
        others = others;
      }
