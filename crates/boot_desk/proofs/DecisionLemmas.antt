-- Each decision leaves a sound hall sound.
use Rattle.std.{specs.Prelude.{◌≡◌, ◌≢◌, ℕ, false, List, [], ◌∷◌, Some, None, is_some, Result}, proofs.{Common.{refl, sym, ap, inr, ◌∙◌}, lemmas.Bool.both_ways}}
use Rattle.hall_types.specs.{Kinds.stage_after, Rows.{at, put}, RowLaws.at-put-same, Hall.{Hall, applied}, declared.{boot.Boot.Boot, change.RowWrite.{RowWrite, TheVariants.{PutBoot, PutOrder}}, kinds.{OrderStage.TheVariants.Waiting, Outcome.Outcome, Progress.Progress, Purpose.Purpose, Stage.TheVariants.Started}, machine.Machine.Machine, order.Order.Order, refusal.Refusal.Refusal, status.Status.TheVariants.EnteringRescue}}
use Rattle.hall_types.specs.declared.kinds.Outcome.TheVariants as outcome
use Rattle.hall_types.specs.declared.kinds.Progress.TheVariants as progress
use Rattle.hall_types.specs.declared.kinds.Purpose.TheVariants as purpose
use Rattle.life_cycle.specs.{declared.{entering.Entered.Entered, signal.Signal.{Signal, TheVariants.{Answer, Expired, FourthBoot, Report}}, step.Step.Step}, Entering.entered, Table.step_of, TableLaws.is_signal}
use Rattle.boot_desk.{specs.{declared.{class.ScriptClass.TheVariants.Work, fault.Verdict.TheVariants.Counted}, Class.{class_in, class_of}, DecisionLaws.{IfOk, answering_rows, fetched_cases, order_cases, report_cases, step_cases, swept_cases}, Expiry.swept, Fetch.fetched, Following.{answering, entry_rows, followed, with_entry}, OrderAnswer.{answered, answered_with, stage_for}, Report.{is_wrong_stage, reported}, Texts.hold_script, Views.{order_view, report_view, row_at, view_of}, Sound.IsSound, SoundLaws.{some_is, boots_same}, EntryLaws.{entry_from_sound, entry_sound, is_by, orders_answered, orders_withdrawn, waits_answered, waits_withdrawn}, ClassLaws.same_purpose}, proofs.{MoveLemmas.{boots_staged, idle_sound, issue_sound, start_sound}, StepLemmas.{KeptBoot, done-leads, failed-leads, may_enter}}}

-- the rows of an answer leave the hall sound
abbrev pub Keeps : {A : Type 0} → Hall → Result (List RowWrite × A) Refusal → Type 0
Keeps {A = A} h = IfOk (λ (d : List RowWrite × A). IsSound (applied d.0 h))

module _ (h : Hall) (m : Machine) (s : IsSound h) (was : at h.machines m.id ≡ Some m) where
  abbrev KeepsRows : Result (List RowWrite) Refusal → Type 0
  KeepsRows = IfOk (λ (rows : List RowWrite). IsSound (applied rows h))

  -- an entry by a signal that no operator and no report gives
  entry_keeps : (signal : Signal) (moment : ℕ) → is_by signal ≡ false → is_signal signal (Report progress.Started) ≡ false → (step : Step) (e : Entered) → step_of m signal ≡ Some step → entered m step moment h.last ≡ Some e
      → IsSound (applied (entry_rows m (row_at h.orders m.waiting) e) h)
  entry_keeps signal moment no_command no_report step e leads enters =
      entry_from_sound h m m step moment s was (may_enter h m s was signal step no_command leads moment e h.boots (λ t. absurd (both_ways (is_signal signal (Report progress.Started)) no_report t)) enters) m e enters

  -- ---- scripts and expiry

  pub fetched_keeps : (host : List ℕ) (moment : ℕ) (fresh : List ℕ) → Keeps h (fetched host (view_of h m) moment fresh)
  unfolding followed
  fetched_keeps host moment fresh =
      fetched_cases host (view_of h m) moment fresh (Keeps h) s s tt (λ p image b works its offered. s)
      (λ offered few.
      answering_rows hold_script (followed [] (view_of h m) moment (step_of m FourthBoot)) (λ rows. IsSound (applied rows h))
      (step_cases KeepsRows m m FourthBoot moment h.last (followed [] (view_of h m) moment) (with_entry [] m (row_at h.orders m.waiting)) (λ step. refl)
      (λ stays. s) tt (entry_keeps FourthBoot moment refl refl)))
      (λ p image number works its few next. issue_sound h m s was number p fresh next works few)

  pub swept_keeps : (moment : ℕ) → IsSound (applied (swept (Some (view_of h m)) moment) h)
  swept_keeps moment = swept_cases (view_of h m) moment (λ rows. IsSound (applied rows h)) s (λ due. entry_keeps Expired moment refl refl)

  -- ---- reports

  entering_for : (p : Purpose) → class_of m ≡ Work p → m.status ≡ EnteringRescue → p ≡ purpose.Rescue
  unfolding class_in
  entering_for p works is = same_purpose p purpose.Rescue (sym works ∙ ap (λ x. class_in x m.back) is)

  kept_boot : (b : Boot) (report : Progress) → b.machine ≡ m.id → m.boot ≡ Some b.number → class_of m ≡ Work b.purpose → KeptBoot (Report report) m (put b.number (record b { stage = stage_after report }) h.boots)
  kept_boot b progress.Started its current works same entering n is = (
    record b { stage = Started },
    ap (at (put b.number (record b { stage = Started }) h.boots)) (some_is n b.number (sym is ∙ current)) ∙ at-put-same h.boots b.number (record b { stage = Started }),
    its,
    inr refl,
    entering_for b.purpose works entering,
  )
  kept_boot b progress.Done its current works same entering n is = cc
  kept_boot b progress.Failed its current works same entering n is = cc

  -- a report that leads nowhere is that the boot has started
  stays_sound : (b : Boot) (report : Progress) → at h.boots b.number ≡ Some b → b.machine ≡ m.id → m.boot ≡ Some b.number → class_of m ≡ Work b.purpose → is_wrong_stage report b.purpose m.status ≡ false → step_of m (Report report) ≡ None
      → IsSound (record h { boots = put b.number (record b { stage = stage_after report }) h.boots })
  stays_sound b progress.Started is its current works right none = start_sound h m s was b is its current works
  stays_sound b progress.Done is its current works right none =
      absurd (both_ways (is_some (step_of m (Report progress.Done))) (ap (λ x. is_some x) none) (done-leads m b.purpose works right))
  stays_sound b progress.Failed is its current works right none =
      absurd (both_ways (is_some (step_of m (Report progress.Failed))) (ap (λ x. is_some x) none) (failed-leads m b.purpose works right))

  counted_keeps : (b : Boot) (report : Progress) (moment : ℕ) → at h.boots b.number ≡ Some b → b.machine ≡ m.id → m.boot ≡ Some b.number → class_of m ≡ Work b.purpose → is_wrong_stage report b.purpose m.status ≡ false
      → KeepsRows (followed (PutBoot (record b { stage = stage_after report }) ∷ []) (view_of h m) moment (step_of m (Report report)))
  unfolding followed
  counted_keeps b report moment is its current works right =
      let first = PutBoot (record b { stage = stage_after report }) ∷ [] in
      let boots = put b.number (record b { stage = stage_after report }) h.boots in
      step_cases KeepsRows m m (Report report) moment h.last (followed first (view_of h m) moment) (with_entry first m (row_at h.orders m.waiting)) (λ step. refl)
      (stays_sound b report is its current works right) tt
      (λ step e leads enters.
      entry_sound h m m step moment boots s was
      (may_enter h m s was (Report report) step refl leads moment e boots (kept_boot b report its current works) enters)
      (boots_staged h m s was b (stage_after report) is its)
      m (row_at h.orders m.waiting) h.orders e (orders_withdrawn h m s was) (waits_withdrawn h m s was) enters)

  -- ---- answers to orders

  not_waiting : (answer : Outcome) → stage_for answer ≢ Waiting
  not_waiting outcome.Done e = cc
  not_waiting outcome.Failed e = cc

  no_start : (answer : Outcome) → is_signal (Answer answer) (Report progress.Started) ≡ false
  no_start outcome.Done = refl
  no_start outcome.Failed = refl

  answer_keeps : (o : Order) (answer : Outcome) (moment : ℕ) → at h.orders o.number ≡ Some o → o.machine ≡ m.id → m.waiting ≡ Some o.number
      → Keeps h (answered_with (PutOrder (record o { stage = stage_for answer })) (view_of h m) moment (step_of m (Answer answer)))
  answer_keeps o answer moment is its waiting =
      let o' = record o { stage = stage_for answer } in
      let own = orders_answered h m s was o o' is its refl refl in
      let waits = waits_answered h m s was o.number o' waiting refl (not_waiting answer) in
      step_cases (Keeps h) m m (Answer answer) moment h.last (answered_with (PutOrder o') (view_of h m) moment) (λ e. answering Counted (with_entry (PutOrder o' ∷ []) m None e)) (λ step. refl)
      (λ stays. idle_sound h m s was (put o'.number o' h.orders) own waits) tt
      (λ step e leads enters.
      entry_sound h m m step moment h.boots s was
      (may_enter h m s was (Answer answer) step refl leads moment e h.boots (λ t. absurd (both_ways (is_signal (Answer answer) (Report progress.Started)) (no_start answer) t)) enters)
      (boots_same h m s) m None (put o'.number o' h.orders) e own waits enters)

-- ---- reports and answers by their numbers

module _ (h : Hall) (s : IsSound h) where
  pub reported_keeps : (number : ℕ) (token : List ℕ) (report : Progress) (moment : ℕ) → Keeps h (reported (report_view h number) token report moment)
  reported_keeps number token report moment =
      report_cases h s number moment (Keeps h) (λ refusal. tt) s token report (λ b m key stands its was c.
      let own = (s.machines m.id m was).boot b.number c.0.current in
      let same : own.0 ≡ b = some_is own.0 b (sym own.1 ∙ (ap (row_at h.boots) c.0.current ∙ stands)) in
      answering_rows Counted (followed (PutBoot (record b { stage = stage_after report }) ∷ []) (view_of h m) moment (step_of m (Report report))) (λ rows. IsSound (applied rows h))
      (counted_keeps h m s was b report moment stands its c.0.current (own.4 ∙ ap (λ (x : Boot). Work x.purpose) same) c.1))

  pub answered_keeps : (number : ℕ) (answer : Outcome) (moment : ℕ) → Keeps h (answered (order_view h number) answer moment)
  answered_keeps number answer moment =
      order_cases h s number moment (Keeps h) (λ refusal. tt) s answer (λ o m key stands its was waits.
      let x = s.waiting o.number o stands waits in
      let same : x.0 ≡ m = some_is x.0 m (sym x.1 ∙ (ap (at h.machines) its ∙ was)) in
      answer_keeps h m s was o answer moment stands its (ap (λ (y : Machine). y.waiting) (sym same) ∙ x.2))
