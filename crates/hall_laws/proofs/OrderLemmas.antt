-- Orders are queued at entries, one waits for each machine, and an answer counts once.
use Rattle.std.{proofs.{Common.{◌≡◌, ◌≤◌, ◌⊎◌, ℕ, List, [], ◌∷◌, ◌++◌, refl, sym, ap, subst, ◌∙◌, inl, inr, arith}, lemmas.{Bool.both_ways, Option.none-some}}, specs.Prelude.{Option, Some, None, true, false, is_some}}
use Rattle.hall_types.specs.Rows.{at, put}
use Rattle.hall_events.specs.declared.event.Event.TheVariants as event
use Rattle.life_cycle.specs.declared.step.Step.{Step as TableStep}
use Rattle.hall_laws.{specs.{Prelude.{Hall, waits, at-put-other, at-put-same, Waiting, Outcome, Machine, Order, Content, counted, Event, IsQueued, entered-id, entered-order-queued, cleared, stage_for, IsSound, some_is}, Step.{IsStep, Step}, HallLaws.{orders_first, queued}, Writes.{CauseOf, First, IsOrderAnswered, boot_first, is_command, nothing_first, order_first, withdrawn_at}, Laws.{CountsAnswerOnce, CountsSome, IsQueuedAtEntry, QueuesAtEntries, WaitsForOne, WaitsNoMore, Withdraws}, Past.{CountsAnswer, SomeOf}}, proofs.{Effects.{Effect, StepDoes, decided, did, edits, enters, goes, idles, issues, leaves, makes, missed, notes, step_does}, Enterings.{new_id, queued_number}, Entries.row_taken, Frame.{none_from, some_of_more}, MachineRows.is_entry, NumbersOnceLemmas.order_grows, OrderRows.{OrderNow, not_waiting, order_now, queued_order, same_order, settled_order}}}

-- ---- one waits

pub one_waits : (h : Hall) → IsSound h → WaitsForOne h
one_waits h s = record {
  one = λ a b o p is its first second same.
      let m = s.waiting a o is first in
      let n = s.waiting b p its second in
      let one : m.0 ≡ n.0 = some_is m.0 n.0 (sym m.1 ∙ (ap (at h.machines) same ∙ n.1)) in
      some_is a b (sym m.2 ∙ (ap (λ (x : Machine). x.waiting) one ∙ n.2));
  deployed = λ id m there deployed n o is its wait.
      let k = s.waiting n o is wait in
      let one : k.0 ≡ m = some_is k.0 m (sym k.1 ∙ (ap (at h.machines) its ∙ there)) in
      none-some n (sym ((s.machines id m there).deployed deployed) ∙ (ap (λ (x : Machine). x.waiting) (sym one) ∙ k.2));
}

-- ---- orders are queued at entries

pub queues_at_entries : (past : List Step) (s : Step) → IsStep s → IsSound s.before → QueuesAtEntries past s
queues_at_entries past s step sound n o none some = by_step (step_does s step sound)
  where
    by : s.answer ≡ Some (decided s).content → OrderNow s.before s.arrival.event s.arrival.moment (decided s).content s.after n o → IsQueuedAtEntry o s
    by answer (same_order there) = absurd (none-some o (sym none ∙ there))
    by answer (settled_order k there fails) = absurd (none-some k (sym none ∙ there))
    by answer (queued_order rows x q queue above its machines) =
        let facts : IsQueued x.entering x.step s.before.last x.new.numbers o =
        subst (IsQueued x.entering x.step s.before.last x.new.numbers) (sym its) (entered-order-queued x.entering x.step s.arrival.moment s.before.last x.new x.enters q queue) in
        let own : o.machine ≡ x.new.machine.id = facts.machine ∙ sym (entered-id x.entering x.step s.arrival.moment s.before.last x.new x.enters) in
        let machine : o.machine ≡ x.machine.id = own ∙ new_id s.before s.arrival.event s.arrival.moment rows (decided s).content x in
        let row : at s.after.machines o.machine ≡ Some x.new.machine = ap (λ rows. at rows o.machine) machines ∙ (ap (at (put x.new.machine.id x.new.machine s.before.machines)) own ∙ at-put-same s.before.machines x.new.machine.id x.new.machine) in
        let taken = row_taken s step sound rows (decided s).content x o.machine x.new.machine machine refl row answer in
        record {
          waits = facts.stage;
          entry = is_entry s sound s.arrival.event s.arrival.moment rows (decided s).content x o.machine x.new.machine machine refl row;
          takes = taken.0;
          kind = ap (λ (t : TableStep). t.order) taken.1 ∙ facts.kind;
        }

    by_step : StepDoes s → IsQueuedAtEntry o s
    by_step (missed answer after) = absurd (none-some o (sym none ∙ (ap (λ (h : Hall). at h.orders n) (sym after) ∙ some)))
    by_step (did answer after writes effect) = by answer (order_now s.before sound s.arrival.event s.arrival.moment s.arrival.fresh (decided s).content s.after effect n o some)

-- ---- an order that doesn't wait

pub waits_no_more : (past : List Step) (s : Step) → IsStep s → IsSound s.before → WaitsNoMore past s
waits_no_more past s step sound n k o was idle is wait = by_step (step_does s step sound)
  where
    as_it_was : at s.before.orders n ≡ Some o → ⊥
    as_it_was there = idle (ap (λ (y : Order). y.stage) (some_is k o (sym was ∙ there)) ∙ wait)

    by : OrderNow s.before s.arrival.event s.arrival.moment (decided s).content s.after n o → ⊥
    by (same_order there) = as_it_was there
    by (queued_order rows x q queue above its machines) = omega (arith, above, sound.last_order n (ap (λ y. is_some y) was))
    by (settled_order k there fails) = both_ways (waits o.stage) fails (ap waits wait)

    by_step : StepDoes s → ⊥
    by_step (missed answer after) = as_it_was (ap (λ (h : Hall). at h.orders n) (sym after) ∙ is)
    by_step (did answer after writes effect) = by (order_now s.before sound s.arrival.event s.arrival.moment s.arrival.fresh (decided s).content s.after effect n o is)

-- ---- an answer that counted

-- the order, before and after
record Answered (h : Hall) (g : Hall) (n : ℕ) : Type 0 where
  order : Order
  number : order.number ≡ n
  recorded : at h.orders order.number ≡ Some order
  waited : order.stage ≡ Waiting
  after : (o : Order) → at g.orders n ≡ Some o → waits o.stage ≡ false
  there : is_some (at g.orders n) ≡ true

no_answer : (e : Event) (bearer : Option (List ℕ)) (n : ℕ) (its : Outcome) → e ≡ event.OrderAnswer bearer n its → is_command e ≡ true → ⊥
no_answer e bearer n its is command = let t : false ≡ true = sym (ap is_command is) ∙ command in cc

same_answer : (b c : Option (List ℕ)) (a n : ℕ) (x y : Outcome) → event.OrderAnswer b a x ≡ event.OrderAnswer c n y → a ≡ n
same_answer b c a n x y e = cc

module _ (h : Hall) (s : IsSound h) (e : Event) (moment : ℕ) (fresh : List ℕ) (content : Content) (g : Hall) (bearer : Option (List ℕ)) (n : ℕ) (its : Outcome) (is : e ≡ event.OrderAnswer bearer n its) (counts : content ≡ counted) where
  -- the order that was answered, whose row was put
  by_put : (m : Machine) (k : Order) (outcome : Outcome) → IsOrderAnswered h e content m k outcome → at g.orders k.number ≡ Some (record k { stage = stage_for outcome }) → Answered h g n
  by_put m k outcome cause put_there =
      let number = same_answer cause.bearer bearer k.number n outcome its (sym cause.event_is ∙ is) in
      let there : at g.orders n ≡ Some (record k { stage = stage_for outcome }) = ap (at g.orders) (sym number) ∙ put_there in
      record {
        order = k;
        number = number;
        recorded = cause.recorded;
        waited = cause.waits;
        after = λ o found. ap (λ (y : Order). waits y.stage) (some_is o (record k { stage = stage_for outcome }) (sym found ∙ there)) ∙ not_waiting outcome;
        there = ap (λ o. is_some o) there;
      }

  answered_effect : Effect h e moment fresh content g → Answered h g n
  answered_effect (leaves quiet has) = absurd (no_answer e bearer n its is (quiet counts))
  answered_effect (makes (inl by) m new next has) = let apart = sym by.2 ∙ is in cc
  answered_effect (makes (inr by) m new next has) = let apart = sym by.6 ∙ is in cc
  answered_effect (issues rows x has) = let apart = sym x.event_is ∙ is in cc
  answered_effect (enters rows x has) = by x.first x.cause has.orders
    where
      past_queue : (k : Order) (row : Order) (q : Option Order) → x.new.order ≡ q → at h.orders k.number ≡ Some k → at (queued q (put k.number row h.orders)) k.number ≡ Some row
      past_queue k row None queue there = at-put-same h.orders k.number row
      past_queue k row (Some q) queue there =
          at-put-other (put k.number row h.orders) q.number q k.number (λ same. omega (arith, same, queued_number h e moment rows content x q queue, s.last_order k.number (ap (λ o. is_some o) there)))
          ∙ at-put-same h.orders k.number row

      by : (first : First) → CauseOf h e moment content x.machine x.entering x.signal first → g.orders ≡ queued x.new.order (cleared (withdrawn_at h x.machine first) (orders_first first h.orders)) → Answered h g n
      by nothing_first (inl cause) same = let apart = sym cause.event_is ∙ is in cc
      by nothing_first (inr (own, inl cause)) same = let apart = sym cause.event_is ∙ is in cc
      by nothing_first (inr (own, inr cause)) same = let apart = sym cause.event_is ∙ is in cc
      by (boot_first b p) cause same = let apart = sym cause.2.event_is ∙ is in cc
      by (order_first k outcome) cause same =
          by_put x.machine k outcome cause.2 (ap (λ y. at y k.number) same ∙ past_queue k (record k { stage = stage_for outcome }) x.new.order refl cause.2.recorded)
  answered_effect (notes rows x has) = let apart = sym x.cause.event_is ∙ is in cc
  answered_effect (idles rows x has) =
      by_put x.machine x.order x.outcome x.cause (ap (λ y. at y x.order.number) has.orders ∙ at-put-same h.orders x.order.number (record x.order { stage = stage_for x.outcome }))
  answered_effect (edits command rows x has) = absurd (no_answer e bearer n its is command)
  answered_effect (goes command id deletes has) = absurd (no_answer e bearer n its is command)

answered_at : (s : Step) → StepDoes s → IsSound s.before → (n : ℕ) (its : Outcome) → CountsAnswer n its s → Answered s.before s.after n
answered_at s (missed answer after) sound n its c = absurd (none-some counted (sym answer ∙ c.1.answer))
answered_at s (did answer after writes effect) sound n its c =
    answered_effect s.before sound s.arrival.event s.arrival.moment s.arrival.fresh (decided s).content s.after c.0 n its c.1.event (some_is (decided s).content counted (sym answer ∙ c.1.answer)) effect

-- ---- the invariant

-- an answer to the order counted, or it was withdrawn
abbrev pub Settles : ℕ → Step → Type 0
Settles n s = CountsSome n s ⊎ Withdraws n s

-- an order of which that is said doesn't wait, and its number was issued
pub record KnowsAnswers (past : List Step) (h : Hall) : Type 0 where
  pub settled : (n : ℕ) → SomeOf (Settles n) past → (o : Order) → at h.orders n ≡ Some o → waits o.stage ≡ false
  pub issued : (n : ℕ) → SomeOf (Settles n) past → n ≤ h.last.order

module _ (past : List Step) (s : Step) (sound : IsSound s.before) (old : KnowsAnswers past s.before) (does : StepDoes s) where
  settled_stays : (n : ℕ) → SomeOf (Settles n) past → (o : Order) → at s.after.orders n ≡ Some o → waits o.stage ≡ false
  settled_stays n some o is = by_step does
    where
      by : OrderNow s.before s.arrival.event s.arrival.moment (decided s).content s.after n o → waits o.stage ≡ false
      by (same_order there) = old.settled n some o there
      by (queued_order rows x q queue above its machines) = absurd (omega (arith, above, old.issued n some))
      by (settled_order k there fails) = fails

      by_step : StepDoes s → waits o.stage ≡ false
      by_step (missed answer after) = old.settled n some o (ap (λ (h : Hall). at h.orders n) (sym after) ∙ is)
      by_step (did answer after writes effect) = by (order_now s.before sound s.arrival.event s.arrival.moment s.arrival.fresh (decided s).content s.after effect n o is)

  settled_now : (n : ℕ) → Settles n s → (o : Order) → at s.after.orders n ≡ Some o → waits o.stage ≡ false
  settled_now n (inl c) o is = (answered_at s does sound n c.0 c.1).after o is
  settled_now n (inr w) o is = ap (λ (y : Order). waits y.stage) (some_is o w.1 (sym is ∙ w.4)) ∙ ap waits w.5

  issued_now : IsSound s.after → (n : ℕ) → Settles n s → n ≤ s.after.last.order
  issued_now later n (inl c) = later.last_order n (answered_at s does sound n c.0 c.1).there
  issued_now later n (inr w) = later.last_order n (ap (λ o. is_some o) w.4)

pub answers_step : (past : List Step) (s : Step) → IsStep s → IsSound s.before → IsSound s.after → KnowsAnswers past s.before → KnowsAnswers (past ++ (s ∷ [])) s.after
answers_step past s step sound later old =
    let does = step_does s step sound in
    record {
      settled = λ n some o is. elim (some_of_more (Settles n) past s some) [ inl was ↦ settled_stays past s sound old does n was o is | inr now ↦ settled_now past s sound old does n now o is ];
      issued = λ n some. elim (some_of_more (Settles n) past s some) [ inl was ↦ order_grows s does n (old.issued n was) | inr now ↦ issued_now past s sound old does later n now ];
    }

some_counts : (n : ℕ) (past : List Step) → SomeOf (CountsSome n) past → SomeOf (Settles n) past
some_counts n [] some = some
some_counts n (s ∷ past) (inl c) = inl (inl c)
some_counts n (s ∷ past) (inr rest) = inr (some_counts n past rest)

some_withdraws : (n : ℕ) (past : List Step) → SomeOf (Withdraws n) past → SomeOf (Settles n) past
some_withdraws n [] some = some
some_withdraws n (s ∷ past) (inl w) = inl (inr w)
some_withdraws n (s ∷ past) (inr rest) = inr (some_withdraws n past rest)

pub answers_once : (past : List Step) (s : Step) → IsStep s → IsSound s.before → KnowsAnswers past s.before → CountsAnswerOnce past s
answers_once past s step sound old n c =
    let a = answered_at s (step_does s step sound) sound n c.0 c.1 in
    let there : at s.before.orders n ≡ Some a.order = ap (at s.before.orders) (sym a.number) ∙ a.recorded in (
      none_from (CountsSome n) past (λ some. both_ways (waits a.order.stage) (old.settled n (some_counts n past some) a.order there) (ap waits a.waited)),
      none_from (Withdraws n) past (λ some. both_ways (waits a.order.stage) (old.settled n (some_withdraws n past some) a.order there) (ap waits a.waited)),
    )

pub new_answers : (h : Hall) → KnowsAnswers [] h
new_answers h = record { settled = λ n none o is. absurd none; issued = λ n none. absurd none }
