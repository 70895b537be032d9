-- How a history goes on by what is called, and what a stop may leave of it.
use Rattle.std.{proofs.Common.{◌≡◌, ◌⊎◌, ℕ, List, [], ◌∷◌, ◌++◌, Result, Ok, Err, Option, Some, append-nil, refl, sym, subst, inl, inr}, specs.{Prelude.{IfOk, IfSome}, List.AllByRecursion}}
use Rattle.hall_store.specs.declared.store.Unavailable.{Unavailable as Refusing}
use Rattle.hall_laws.specs.Decision.{decision_of}
use Rattle.hall_desk.specs.{Prelude.{Site, Hall, applied, second, RowWrite, IsSound, Content, reply_of, Event, Reply, AllKeep, Ghosts, IsTyped}, Attempt.{IsAnswered, IsKept, IsRan, IsTorn}, Headline.{HasHistory, HasServed, Headline, requested}, History.{AllLead, BeginsWith, Item, ItemLeads, Origin, came_unanswered, came_unreplied, carried_out, exchanged, exchanges}, Octets.{HasMissed, IsArrivalStep, IsGiven}, Plan.IsCarriedOut, RunLaws.{all_append, all_on, all_weaker, of_run, silent_idle}, Served.IsServed, Stops.{AndCutRun, AreGiven, HasRun, IsCutEnd, IsEnd, IsLeft, IsSettled, LeavesMore, OrSomeRequest, OrUnanswered, OrUnreplied, SettlesBy, StaysSettled}, declared.{arrival.{Answer.Answer, Arrival.Arrival}, serving.Served.Served}}
use Rattle.hall_desk.specs.declared.arrival.Answer.TheVariants as answer
use Rattle.hall_desk.specs.declared.arrival.Input.TheVariants as input
use Rattle.hall_desk.specs.declared.serving.Served.TheVariants as serving

-- the laws that the calls rely on
pub record AreHistoryLaws : Type 0 where
  pub laws : (origin : Origin) (begin : Hall) (items : List Item) (end : Hall) → BeginsWith origin begin → AllLead begin items end → Headline origin items end

-- what came goes on from a history by these items
pub goes_to : AreHistoryLaws → {S : Type 0} (g : Ghosts S) (store : S) (origin : Origin) (past : List Item) (was : HasHistory g store origin past)
    → (items : List Item) (end : Hall) → AllLead was.end items end → Headline origin (past ++ items) end
goes_to its g store origin past was items end led =
    its.laws origin was.headline.begin (past ++ items) end was.headline.begins (all_on was.headline.begin past was.end was.headline.led items end led)

module _ (its : AreHistoryLaws) {S : Type 0} (g : Ghosts S) (old new : S) (site : Site) (origin : Origin) (past : List Item) (was : HasHistory g old origin past) where
  pub after_run : (arrivals : List Arrival) (answers : List Answer) → ((h : Hall) → g.holds old h → IsSound h → IsRan g new site h arrivals answers)
      → HasHistory g new origin (past ++ exchanges site arrivals answers)
  after_run arrivals answers ran =
      let r = ran was.end was.held was.headline.laws.sound in
      record { end = r.end; held = r.held; headline = goes_to its g old origin past was (exchanges site arrivals answers) r.end (of_run site was.end arrivals answers r.end r.run) }

  after_item : (item : Item) (next : Hall) → g.holds new next → ItemLeads was.end item next → HasHistory g new origin (past ++ item ∷ [])
  after_item item next held leads = record { end = next; held = held; headline = goes_to its g old origin past was (item ∷ []) next (next, leads, refl) }

  pub after_answer : (arrival : Arrival) (a : Answer) → IsAnswered g old new site arrival.input arrival.moment arrival.fresh a
      → HasHistory g new origin (past ++ exchanged site arrival a ∷ [])
  after_answer arrival a it = by (it.step was.end was.held was.headline.laws.sound)
    where
      by : IsKept g old new site arrival.input arrival.moment arrival.fresh was.end a ⊎ (HasMissed was.end arrival.input a was.end × g.holds new was.end)
          → HasHistory g new origin (past ++ exchanged site arrival a ∷ [])
      by (inl kept) = after_item (exchanged site arrival a) kept.next kept.held (inl kept.come)
      by (inr missed) = after_item (exchanged site arrival a) was.end missed.1 (inr missed.0)

  pub after_serving : (octets before : List ℕ) (moment : ℕ) (fresh : List ℕ) (served : Served) (after : Option (List ℕ)) → IsServed g old new site moment fresh octets before served after
      → HasServed g new origin past site octets moment fresh before served after
  after_serving octets before moment fresh serving.Answered after it =
      (it.0, it.2, after_answer (record { moment = moment; fresh = fresh; input = input.Request octets }) it.0 it.1)
  after_serving octets before moment fresh serving.ReadFailed after it =
      (it.1, subst (λ store. HasHistory g store origin past) (sym it.0) was)
  after_serving octets before moment fresh (serving.WriteFailed count) after it =
      (it.0, it.2, it.3, after_answer (record { moment = moment; fresh = fresh; input = input.Request octets }) it.0 it.1)

pub after_served : AreHistoryLaws → {S : Type 0} (g : Ghosts S) (old new : S) (site : Site) (moment : ℕ) (fresh : List ℕ) (served : Served) (octets before after : Option (List ℕ))
    → IfSome octets (λ octets. IfSome before (λ before. IsServed g old new site moment fresh octets before served after))
    → IfSome octets (λ octets. IfSome before (λ before. (origin : Origin) (past : List Item) → HasHistory g old origin past
    → HasServed g new origin past site octets moment fresh before served after))
after_served its g old new site moment fresh served (Some octets) (Some before) after it =
    λ origin past was. after_serving its g old new site origin past was octets before moment fresh served after it
after_served its g old new site moment fresh served octets before after it = tt

-- ---- stops

module _ (its : AreHistoryLaws) {S : Type 0} (g : Ghosts S) (old new : S) (site : Site) (origin : Origin) (past : List Item)
    (was : IsSettled g old origin past) where
  abbrev end : Hall
  end = was.history.end

  -- the history as it was
  as_before : (IsOne : List Item → Type 0) → IsOne past → IsEnd origin IsOne end
  as_before IsOne is = (past, is, was.history.headline)

  -- the history with one item more
  with_item : (item : Item) (next : Hall) → ItemLeads end item next → Headline origin (past ++ item ∷ []) next
  with_item item next leads = goes_to its g old origin past was.history (item ∷ []) next (next, leads, refl)

  settled_item : (item : Item) (next : Hall) → ItemLeads end item next → g.holds new next → g.leaves new (next ∷ []) → IsSettled g new origin (past ++ item ∷ [])
  settled_item item next leads held left = record { history = record { end = next; held = held; headline = with_item item next leads }; settled = left }

  -- an arrival that is answered
  pub after_given : (arrival : Arrival) (a : Answer) → IsAnswered g old new site arrival.input arrival.moment arrival.fresh a
      → IsGiven site end arrival.input arrival.moment arrival.fresh a → IsSettled g new origin (past ++ exchanged site arrival a ∷ [])
  after_given arrival a it given = by (it.step end was.history.held was.history.headline.laws.sound) given
    where
      by : IsKept g old new site arrival.input arrival.moment arrival.fresh end a ⊎ (HasMissed end arrival.input a end × g.holds new end)
          → IsGiven site end arrival.input arrival.moment arrival.fresh a → IsSettled g new origin (past ++ exchanged site arrival a ∷ [])
      by (inl kept) given = settled_item (exchanged site arrival a) kept.next (inl kept.come) kept.held (kept.settled was.settled)
      by (inr missed) (inl given) = absurd (given missed.0.answer)
      by (inr missed) (inr silent) =
          settled_item (exchanged site arrival a) end (inr missed.0) missed.1
          (it.still end was.history.held (silent_idle site end arrival.input arrival.moment arrival.fresh silent) (end ∷ []) was.settled)

  -- a request that is answered
  pub settles : (octets : List ℕ) (moment : ℕ) (fresh : List ℕ) (a : Answer) → IsAnswered g old new site (input.Request octets) moment fresh a
      → SettlesBy g new origin past site moment fresh octets a
  settles octets moment fresh answer.Unavailable it =
      inr (refl, record { end = end; held = it.unavailable refl end was.history.held; headline = was.history.headline })
  settles octets moment fresh (answer.Frame sent) it = inl (after_given (requested octets moment fresh) (answer.Frame sent) it (inl (λ is. cc)))
  settles octets moment fresh (answer.Response status sent) it =
      inl (after_given (requested octets moment fresh) (answer.Response status sent) it (inl (λ is. cc)))
  settles octets moment fresh answer.Silence it = inl (after_given (requested octets moment fresh) answer.Silence it (inl (λ is. cc)))

  pub settled_serving : (octets before : List ℕ) (moment : ℕ) (fresh : List ℕ) (served : Served) (after : Option (List ℕ)) → IsServed g old new site moment fresh octets before served after
      → StaysSettled g new origin past site moment fresh octets before served after
  settled_serving octets before moment fresh serving.Answered after it = (it.0, it.2, settles octets moment fresh it.0 it.1)
  settled_serving octets before moment fresh serving.ReadFailed after it = (it.1, subst (λ store. IsSettled g store origin past) (sym it.0) was)
  settled_serving octets before moment fresh (serving.WriteFailed count) after it = (it.0, it.2, it.3, settles octets moment fresh it.0 it.1)

  -- a stop while an arrival is answered
  pub after_stop : (arrival : Arrival) (a : Answer) → IsAnswered g old new site arrival.input arrival.moment arrival.fresh a
      → IsLeft g new origin (OrUnanswered past site arrival)
  after_stop arrival a it = record {
    halls = torn.next ∷ end ∷ [];
    left = torn.left;
    each = (by torn.step, (as_before (OrUnanswered past site arrival) (inl refl), tt));
  }
    where
      torn : IsTorn g old new site arrival.input arrival.moment arrival.fresh end (end ∷ [])
      torn = it.crash end was.history.held was.history.headline.laws.sound (end ∷ []) was.settled

      by : IsArrivalStep site end arrival.input arrival.moment arrival.fresh torn.answer torn.next → IsEnd origin (OrUnanswered past site arrival) torn.next
      by (inl come) = (past ++ came_unanswered site arrival ∷ [], inr refl, with_item (came_unanswered site arrival) torn.next (torn.answer, come))
      by (inr missed) = (past, inl refl, subst (Headline origin past) (sym missed.same) was.history.headline)

  -- nothing came
  pub nothing_came : (IsOne : List Item → Type 0) → IsOne past → IsLeft g old origin IsOne
  nothing_came IsOne is = record { halls = end ∷ []; left = was.settled; each = (as_before IsOne is, tt) }

  -- some request came, at a moment and with fresh octets, and was answered
  pub request_stop : (octets : List ℕ) (moment : ℕ) (fresh : List ℕ) (a : Answer) → IsAnswered g old new site (input.Request octets) moment fresh a
      → IsLeft g new origin (OrSomeRequest past site moment fresh)
  request_stop octets moment fresh a it =
      let some = after_stop (requested octets moment fresh) a it in
      record {
        halls = some.halls;
        left = some.left;
        each = all_weaker (IsEnd origin (OrUnanswered past site (requested octets moment fresh))) (IsEnd origin (OrSomeRequest past site moment fresh))
            (λ x at. (at.0, one at.0 at.1, at.2)) some.halls some.each;
      }
    where
      one : (items : List Item) → OrUnanswered past site (requested octets moment fresh) items → OrSomeRequest past site moment fresh items
      one items (inl is) = inl is
      one items (inr is) = inr (octets, is)

  -- arrivals that are answered
  pub run_given : (arrivals : List Arrival) (answers : List Answer) → ((h : Hall) → g.holds old h → IsSound h → HasRun g old new site h arrivals answers)
      → AreGiven site end arrivals answers → IsSettled g new origin (past ++ exchanges site arrivals answers)
  unfolding after_run
  run_given arrivals answers has all = record {
    history = after_run its g old new site origin past was.history arrivals answers (λ h held sound. (has h held sound).ran);
    settled = (has end was.history.held was.history.headline.laws.sound).settled was.settled all;
  }

  -- a stop while arrivals are answered
  pub run_stop : (arrivals : List Arrival) (answers : List Answer) → ((h : Hall) → g.holds old h → IsSound h → HasRun g old new site h arrivals answers)
      → IsLeft g new origin (AndCutRun past site arrivals answers)
  run_stop arrivals answers has = record {
    halls = found.0 ++ end ∷ [];
    left = found.1;
    each = all_append (IsEnd origin (AndCutRun past site arrivals answers)) found.0 (end ∷ [])
        (all_weaker (IsCutEnd site end arrivals answers) (IsEnd origin (AndCutRun past site arrivals answers)) ended found.0 found.2)
        (as_before (AndCutRun past site arrivals answers) ([], tt, sym (append-nil past)), tt);
  }
    where
      found : (more : List Hall) × g.leaves new (more ++ end ∷ []) × AllByRecursion (IsCutEnd site end arrivals answers) more
      found = (has end was.history.held was.history.headline.laws.sound).stop (end ∷ []) was.settled

      ended : (x : Hall) → IsCutEnd site end arrivals answers x → IsEnd origin (AndCutRun past site arrivals answers) x
      ended x cut = (past ++ cut.0, (cut.0, cut.1, refl), goes_to its g old origin past was.history cut.0 x cut.2)

pub settled_served : AreHistoryLaws → {S : Type 0} (g : Ghosts S) (old new : S) (site : Site) (moment : ℕ) (fresh : List ℕ) (served : Served) (octets before after : Option (List ℕ))
    → IfSome octets (λ octets. IfSome before (λ before. IsServed g old new site moment fresh octets before served after))
    → IfSome octets (λ octets. IfSome before (λ before. (origin : Origin) (past : List Item) → IsSettled g old origin past
    → StaysSettled g new origin past site moment fresh octets before served after))
settled_served its g old new site moment fresh served (Some octets) (Some before) after it =
    λ origin past was. settled_serving its g old new site origin past was octets before moment fresh served after it
settled_served its g old new site moment fresh served octets before after it = tt

-- of a store that was settled
pub left_more : {S : Type 0} (g : Ghosts S) (old new : S) (origin : Origin) (IsOne : List Item → Type 0) → LeavesMore g old new origin IsOne
    → (past : List Item) → IsSettled g old origin past → IsOne past → IsLeft g new origin IsOne
left_more g old new origin IsOne leaves past was is =
    let end = was.history.end in
    let found = leaves (end ∷ []) was.settled in
    record { halls = found.0 ++ end ∷ []; left = found.1; each = all_append (IsEnd origin IsOne) found.0 (end ∷ []) found.2 ((past, is, was.history.headline), tt) }

-- ---- events

module _ (its : AreHistoryLaws) {S : Type 0} (g : Ghosts S) (old new : S) (site : Site) (e : Event) (moment : ℕ) (fresh : List ℕ) (typed : IsTyped site e fresh)
    (keep : (h : Hall) → IsSound h → h.schema ≡ second → AllKeep (decision_of site h e moment fresh).rows h) (schema : (store : S) (h : Hall) → g.holds store h → h.schema ≡ second) where
  abbrev rows : Hall → List RowWrite
  rows h = (decision_of site h e moment fresh).rows

  abbrev content : Hall → Content
  content h = (decision_of site h e moment fresh).content

  abbrev Carries : Result Reply Refusing → Type 0
  Carries r = IsCarriedOut g old new r rows (λ h reply. reply ≡ reply_of second (content h))

  kept : (origin : Origin) (past : List Item) (was : HasHistory g old origin past) → AllKeep (rows was.end) was.end
  kept origin past was = keep was.end was.headline.laws.sound (schema old was.end was.held)

  -- an event that is carried out
  pub after_events : (r : Result Reply Refusing) → Carries r → IfOk r (λ reply. (origin : Origin) (past : List Item) → HasHistory g old origin past
      → HasHistory g new origin (past ++ carried_out site e moment fresh reply ∷ []))
  after_events (Ok reply) it = λ origin past was.
      after_item its g old new site origin past was (carried_out site e moment fresh reply) (applied (rows was.end) was.end)
      (it.made was.end was.held (kept origin past was)) (record { reply = it.answer was.end was.held; after = refl; typed = typed })
  after_events (Err error) it = tt

  pub events_given : (r : Result Reply Refusing) → Carries r → IfOk r (λ reply. (origin : Origin) (past : List Item) → IsSettled g old origin past
      → IsSettled g new origin (past ++ carried_out site e moment fresh reply ∷ []))
  events_given (Ok reply) it = λ origin past was.
      let last = was.history.end in
      let keeps = kept origin past was.history in
      settled_item its g old new site origin past was (carried_out site e moment fresh reply) (applied (rows last) last)
      (record { reply = it.answer last was.history.held; after = refl; typed = typed })
      (it.made last was.history.held keeps) (it.settled last was.history.held keeps was.settled)
  events_given (Err error) it = tt

  -- a stop while an event is carried out
  pub event_crash : (r : Result Reply Refusing) → Carries r → (origin : Origin) (past : List Item) → HasHistory g old origin past
      → LeavesMore g old new origin (OrUnreplied past site e moment fresh)
  event_crash r it origin past was hs left =
      let last = was.end in
      let next = applied (rows last) last in
      let item = came_unreplied site e moment fresh in (
        next ∷ [],
        it.crash last was.held (kept origin past was) hs left,
        (
          (
            past ++ item ∷ [],
            inr refl,
            goes_to its g old origin past was (item ∷ []) next
                (next, (reply_of second (content last), record { reply = refl; after = refl; typed = typed }), refl),
          ),
          tt,
        ),
      )

  -- of a store that was settled
  pub event_stop : (r : Result Reply Refusing) → Carries r → (origin : Origin) (past : List Item) → IsSettled g old origin past
      → IsLeft g new origin (OrUnreplied past site e moment fresh)
  event_stop r it origin past was =
      left_more g old new origin (OrUnreplied past site e moment fresh) (event_crash r it origin past was.history) past was (inl refl)
