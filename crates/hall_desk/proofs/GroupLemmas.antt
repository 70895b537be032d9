-- Arrivals that are answered by one commit.
use Rattle.std.{proofs.{Common.{◌≡◌, List, [], ◌∷◌, ◌++◌, take, None, Some, Result, Ok, Err, append-nil, refl, sym, subst, inl, inr}}, specs.{Prelude.{◌≢◌, ◌⊎◌, OnOk, OnErr}, List.AllByRecursion}}
use Rattle.hall_store.specs.{Grouped.{IsBegun, IsCommitted, IsRolledBack}, Store.Base}
use Rattle.hall_desk.specs.{Prelude.{Site, Hall, IsSound, Ghosts}, Account.{IsDatagram, IsReadAs}, Attempt.{IsAnswered, IsKept, IsRan}, Grouping.{AreAvailable, AreReadAs, HasGroupRun, HasNoRun, IsTogetherEnd, IsUnavailable, OrTogether, first_of}, Headline.{HasHistory}, History.{AllLead, AreUnanswered, Item, Origin, came_unanswered, exchanges}, HistoryLaws.{AreHistoryLaws, goes_to}, Octets.{HasMissed, IsArrivalRun, IsArrivalStep, missed_answer}, RunLaws.{of_run, run_then}, Stops.{IsEnd, IsLeft, IsSettled}, declared.{account.Account.Account, arrival.{Answer.Answer, Arrival.Arrival, Input.Input}}}
use Rattle.hall_desk.specs.declared.arrival.Input.TheVariants as input

-- ---- one arrival more

pub given_more : (P : Answer → Type 0) (xs : List Answer) (a : Answer) → AllByRecursion P xs → P a → AllByRecursion P (xs ++ a ∷ [])
given_more P [] a all here = (here, tt)
given_more P (x ∷ xs) a all here = (all.0, given_more P xs a all.1 here)

pub read_more : (xs : List Arrival) (accounts : List Account) (x : Arrival) (account : Account) → AreReadAs xs accounts → IsReadAs x.input account.came
    → AreReadAs (xs ++ x ∷ []) (accounts ++ account ∷ [])
read_more [] [] x account all here = (here, tt)
read_more (y ∷ xs) (b ∷ accounts) x account all here = (all.0, read_more xs accounts x account all.1 here)
read_more xs accounts x account all here = absurd all

module _ {S : Type 0} (g : Ghosts S) (site from : Site) (same : from ≡ site) (h : Hall) (mid new : S) (xs : List Arrival) (answers : List Answer)
    (ran : IsRan g mid site h xs answers) (x : Arrival) (a : Answer) (it : IsAnswered g mid new from x.input x.moment x.fresh a) where
  -- it came, or counts as not having come
  pub ran_then : IsRan g new site h (xs ++ x ∷ []) (answers ++ a ∷ [])
  ran_then = by (here.step ran.end ran.held ran.sound)
    where
      here : IsAnswered g mid new site x.input x.moment x.fresh a
      here = subst (λ (at : Site). IsAnswered g mid new at x.input x.moment x.fresh a) same it

      by : IsKept g mid new site x.input x.moment x.fresh ran.end a ⊎ (HasMissed ran.end x.input a ran.end × g.holds new ran.end) → IsRan g new site h (xs ++ x ∷ []) (answers ++ a ∷ [])
      by (inl kept) = record {
        end = kept.next;
        run = run_then site xs (x ∷ []) answers (a ∷ []) h ran.end kept.next ran.run (kept.next, inl kept.come, refl);
        held = kept.held;
        sound = kept.sound;
      }
      by (inr missed) = record {
        end = ran.end;
        run = run_then site xs (x ∷ []) answers (a ∷ []) h ran.end ran.end ran.run (ran.end, inr missed.0, refl);
        held = missed.1;
        sound = ran.sound;
      }

  -- an answer Unavailable leaves what was
  pub ran_before : IsUnavailable a → IsRan g new site h xs answers
  ran_before is = record { end = ran.end; run = ran.run; held = it.unavailable is ran.end ran.held; sound = ran.sound }

-- ---- without their answers

is_datagram : (what : Input) (a : Answer) → a ≡ missed_answer what → ¬ IsUnavailable a → IsDatagram what
is_datagram (input.Datagram port octets) a is other = tt
is_datagram (input.Request octets) a is other = absurd (other is)
is_datagram input.Quiet a is other = absurd (other is)

-- the first arrivals came, as many as were answered, whether or not their answers are given
pub together : (site : Site) (h : Hall) (xs : List Arrival) (answers : List Answer) (end : Hall) → IsArrivalRun site h (first_of xs answers) answers end → AreAvailable answers
    → IsTogetherEnd site h xs end
together site h xs [] end run all = ([], tt, none_led site h xs end run)
  where
    none_led : (site : Site) (h : Hall) (xs : List Arrival) (end : Hall) → IsArrivalRun site h (take 0 xs) [] end → AllLead h [] end
    none_led site h [] end run = run
    none_led site h (x ∷ xs) end run = run
together site h [] (a ∷ answers) end run all = absurd run
together site h (x ∷ xs) (a ∷ answers) end run all = by run.1 (together site run.0 xs answers end run.2 all.1)
  where
    -- a datagram that counts as not having come, before others
    aside : IsDatagram x.input → (came : List Item) → AreUnanswered site xs came → AreUnanswered site (x ∷ xs) came
    aside is [] it = tt
    aside is (item ∷ items) it = inr (is, it)

    by : IsArrivalStep site h x.input x.moment x.fresh a run.0 → IsTogetherEnd site run.0 xs end → IsTogetherEnd site h (x ∷ xs) end
    by (inl come) rest = (came_unanswered site x ∷ rest.0, inl (refl, rest.1), (run.0, (a, come), rest.2))
    by (inr missed) rest =
        (rest.0, aside (is_datagram x.input a missed.answer all.0) rest.0 rest.1, subst (λ from. AllLead from rest.0 end) missed.same rest.2)

-- ---- histories

module _ (its : AreHistoryLaws) {S : Type 0} (g : Ghosts S) (old new : S) (site : Site) (origin : Origin) (past : List Item) where
  pub group_settled : (arrivals : List Arrival) (answers : List Answer) → ((h : Hall) → g.holds old h → IsSound h → HasGroupRun g old new site h arrivals answers)
      → HasHistory g old origin past → IsSettled g new origin (past ++ exchanges site arrivals answers)
  group_settled arrivals answers has was =
      let its_run = has was.end was.held was.headline.laws.sound in
      let ran = its_run.ran in
      record {
        history = record {
          end = ran.end;
          held = ran.held;
          headline = goes_to its g old origin past was (exchanges site arrivals answers) ran.end (of_run site was.end arrivals answers ran.end ran.run);
        };
        settled = its_run.settled;
      }

  -- a stop leaves the hall before, or a hall to which the first arrivals lead together
  pub group_stop : (was : IsSettled g old origin past) (arrivals : List Arrival) (end : Hall) → IsTogetherEnd site was.history.end arrivals end
      → g.leaves new (end ∷ was.history.end ∷ was.history.end ∷ []) → IsLeft g new origin (OrTogether past site arrivals)
  group_stop was arrivals end ends left = record {
    halls = end ∷ was.history.end ∷ was.history.end ∷ [];
    left = left;
    each = (
      (past ++ ends.0, (ends.0, ends.1, refl), goes_to its g old origin past was.history ends.0 end ends.2),
      (before, (before, tt)),
    );
  }
    where
      before : IsEnd origin (OrTogether past site arrivals) was.history.end
      before = (past, ([], tt, sym (append-nil past)), was.history.headline)

  -- likewise where none is answered
  pub none_stop : (was : IsSettled g old origin past) (arrivals : List Arrival) → HasNoRun g old new site was.history.end arrivals
      → IsLeft g new origin (OrTogether past site arrivals)
  none_stop was arrivals it = group_stop was arrivals it.end it.together (it.stop (was.history.end ∷ []) was.settled)

-- ---- the commit

module _ {S : Type 0} (g : Ghosts S) (wider : (s : S) (h : Hall) (hs : List Hall) → g.leaves s hs → g.leaves s (h ∷ hs)) where
  -- a group that was begun is over the hall before it
  module _ (old group : S) {Y E : Type 0} (r : Result Y E) (begun : IsBegun g.holds g.leaves g.over old group r) (y : Y) (is : r ≡ Ok y) (h : Hall) (held : g.holds old h) where
    begins : (hs : List Hall) → (hs ≢ [] → g.leaves old hs) → g.over group (Some (record { hall = h; halls = hs }))
    begins = subst (λ o. OnOk o ((h : Hall) → g.holds old h → (hs : List Hall) → (hs ≢ [] → g.leaves old hs) → g.over group (Some (record { hall = h; halls = hs })))) is begun.begun h held

    pub over_hall : g.over group (Some (record { hall = h; halls = [] }))
    over_hall = begins [] (λ some. absurd (some refl))

    pub over_left : (hs : List Hall) → g.leaves old hs → g.over group (Some (record { hall = h; halls = h ∷ hs }))
    over_left hs left = begins (h ∷ hs) (λ some. wider old h hs left)

  -- the changes of a group are written, or none: a stop leaves what it left before, or the hall to which they lead
  module _ (old group new : S) (h : Hall) (over : (hs : List Hall) → g.leaves old hs → g.over group (Some (record { hall = h; halls = h ∷ hs }))) where
    pub may_leave : {Y E : Type 0} (r : Result Y E) → IsCommitted g.holds g.leaves g.over group new r → (end : Hall) → g.holds group end
        → (hs : List Hall) → g.leaves old hs → g.leaves new (end ∷ h ∷ hs)
    may_leave r committed end held hs left = committed.crash end held (record { hall = h; halls = h ∷ hs }) (over hs left) (λ is. cc)

    -- they were given up
    pub given_up : (site : Site) (arrivals : List Arrival) → g.over group (Some (record { hall = h; halls = [] })) → IsRolledBack g.holds g.leaves g.over group new
        → HasNoRun g old new site h arrivals
    given_up site arrivals alone back = record {
      end = h;
      together = ([], tt, refl);
      held = back.back _ alone;
      stop = λ hs left. wider new h (h ∷ hs) (back.crash (record { hall = h; halls = h ∷ hs }) (over hs left) (λ is. cc));
    }

    module _ {Y E : Type 0} (r : Result Y E) (committed : IsCommitted g.holds g.leaves g.over group new r) (site from : Site) (same : from ≡ site)
        (xs : List Arrival) (answers : List Answer) (ran : IsRan g group from h (first_of xs answers) answers) where
      here : IsArrivalRun site h (first_of xs answers) answers ran.end
      here = subst (λ at. IsArrivalRun at h (first_of xs answers) answers ran.end) same ran.run

      -- once they are written, all arrivals led to the hall that a stop leaves
      pub group_run : (y : Y) → r ≡ Ok y → HasGroupRun g old new site h (first_of xs answers) answers
      group_run y is =
          let made = subst (λ o. OnOk o ((x : Hall) → g.holds group x → g.holds new x × g.leaves new (x ∷ []))) is committed.made ran.end ran.held in
          record {
            ran = record { end = ran.end; run = here; held = made.0; sound = ran.sound };
            settled = made.1;
            stop = may_leave r committed ran.end ran.held;
          }

      -- none was written
      pub group_back : (e : E) → r ≡ Err e → AreAvailable answers → g.over group (Some (record { hall = h; halls = [] })) → HasNoRun g old new site h xs
      group_back e is all alone = record {
        end = ran.end;
        together = together site h xs answers ran.end here all;
        held = subst (λ o. OnErr o ((base : Base) → g.over group (Some base) → g.holds new base.hall)) is committed.back _ alone;
        stop = may_leave r committed ran.end ran.held;
      }

  -- none was begun
  pub none_begun : (old new : S) {Y E : Type 0} (r : Result Y E) → IsBegun g.holds g.leaves g.over old new r → (e : E) → r ≡ Err e
      → (site : Site) (h : Hall) (arrivals : List Arrival) → g.holds old h → HasNoRun g old new site h arrivals
  none_begun old new r begun e is site h arrivals held = record {
    end = h;
    together = ([], tt, refl);
    held = begun.same h held;
    stop = λ hs left. wider new h (h ∷ hs) (wider new h hs (subst (λ o. OnErr o ((hs : List Hall) → g.leaves old hs → g.leaves new hs)) is begun.crash hs left));
  }

pub on_err : {A E : Type 0} (r : Result A E) (P : Type 0) → P → OnErr r P
on_err (Ok a) P p = tt
on_err (Err e) P p = p

-- a group that wasn't begun left none open
pub none_opened : {S : Type 0} (g : Ghosts S) (old new : S) {Y E : Type 0} (r : Result Y E) → IsBegun g.holds g.leaves g.over old new r → (e : E) → r ≡ Err e
    → g.over old None → g.over new None
none_opened g old new r begun e is = subst (λ o. OnErr o (g.over old None → g.over new None)) is begun.closed
