-- What holds of a decision if it holds of each way in which the decision comes out.
use Rattle.std.{specs.{Prelude.{◌≡◌, ⊤, ℕ, Bool, true, false, List, [], Option, Some, None, Result, Ok, Err, if◌then◌else◌}, Str.bytes_eq}, proofs.{Common.{refl, sym, ap, subst}, lemmas.{Bool.eqb-true, Slice.Eq.bytes_eq-Decides}}}
use Rattle.hall_types.specs.{Hall.Hall, Image.BootImage, LookupLaws.row_cases, Number.next_number, Rows.at, declared.{boot.Boot.Boot, change.RowWrite.{RowWrite, TheVariants.PutOrder}, kinds.{OrderStage.OrderStage, Outcome.Outcome, Progress.Progress, Purpose.Purpose, Stage.Stage}, machine.Machine.Machine, number.Numbers.Numbers, order.Order.Order, refusal.Refusal.{Refusal, TheVariants.{Exhausted, NoBoot, NoOrder, Spent, Stale, Withdrawn, WrongStage}}}}
use Rattle.hall_types.specs.declared.kinds.OrderStage.TheVariants as orderstage
use Rattle.hall_types.specs.declared.kinds.Outcome.TheVariants as outcome
use Rattle.hall_types.specs.declared.kinds.Progress.TheVariants as report
use Rattle.hall_types.specs.declared.kinds.Stage.TheVariants as stage
use Rattle.life_cycle.specs.{declared.{entering.Entered.Entered, signal.Signal.{Signal, TheVariants.{Answer, Expired, FourthBoot}}, step.Step.Step}, Entering.entered, Table.step_of}
use Rattle.boot_desk.specs.{declared.{class.ScriptClass.{ScriptClass, TheVariants.{Local, Work, Hold}}, fault.Verdict.TheVariants.Repeat, reporting.Standing.{Standing, TheVariants.{Repeated, Contradicted, News}}, views.{BootView.BootView, OrderView.OrderView, ReportView.ReportView}}, Class.class_of, Expiry.{is_due, rows_or_none, swept}, Fetch.{Fetched, fetched, fetched_by, image_for, is_fourth, issued, offered_boot, worked, worked_if}, Following.{answering, entry_rows, followed, with_entry}, OrderAnswer.{answered, answered_as, answered_with, stage_for}, Promises.{CountsFor, Takes}, Report.{Judged, counted, is_current, is_wrong_stage, judged, reported, standing_of}, Sound.IsSound, Texts.{hold_script, local_script, work_script}, Views.{machine_view, order_view, order_view_of, order_view_with, report_view, report_view_of, report_view_with, view_of}}

-- it holds of what is decided, if that isn't refused
abbrev pub IfOk : {A : Type 0} → (A → Type 0) → Result A Refusal → Type 0
IfOk P (Ok decided) = P decided
IfOk P (Err refusal) = ⊤

pub if_ok : {A : Type 0} (P : A → Type 0) (r : Result A Refusal) (decided : A) → IfOk P r → r ≡ Ok decided → P decided
if_ok P r decided holds is = subst (IfOk P) is holds

module _ {A : Type 0} (answer : A) (r : Result (List RowWrite) Refusal) where
  -- of the rows, with which something is answered
  pub answering_rows : (P : List RowWrite → Type 0) → IfOk P r → IfOk (λ (d : List RowWrite × A). P d.0) (answering answer r)
  answering_rows P = by r
    where
      by : (r : Result (List RowWrite) Refusal) → IfOk P r → IfOk (λ (d : List RowWrite × A). P d.0) (answering answer r)
      by (Ok rows) holds = holds
      by (Err refusal) holds = tt

  -- of what is answered with the rows
  pub answering_gives : (P : A → Type 0) → P answer → IfOk (λ (d : List RowWrite × A). P d.1) (answering answer r)
  answering_gives P holds = by r
    where
      by : (r : Result (List RowWrite) Refusal) → IfOk (λ (d : List RowWrite × A). P d.1) (answering answer r)
      by (Ok rows) = holds
      by (Err refusal) = tt

-- ---- steps

-- the table has no step for the signal, or there is no number for the step's order, or the machine enters a status
pub step_cases : {R : Type 0} (P : R → Type 0) (m entering : Machine) (signal : Signal) (moment : ℕ) (last : Numbers) (made : Option Step → R) (entry : Option Entered → R)
    → ((step : Step) → made (Some step) ≡ entry (entered entering step moment last))
    → (step_of m signal ≡ None → P (made None)) → P (entry None)
    → ((step : Step) (e : Entered) → step_of m signal ≡ Some step → entered entering step moment last ≡ Some e → P (entry (Some e)))
    → P (made (step_of m signal))
step_cases P m entering signal moment last made entry is stays none enters = by_step (step_of m signal) refl
  where
    by_entry : (step : Step) → step_of m signal ≡ Some step → (e : Option Entered) → entered entering step moment last ≡ e → P (entry e)
    by_entry step leads None e_is = none
    by_entry step leads (Some e) e_is = enters step e leads e_is

    by_step : (step : Option Step) → step_of m signal ≡ step → P (made step)
    by_step None leads = stays leads
    by_step (Some step) leads = subst P (sym (is step)) (by_entry step leads (entered entering step moment last) refl)

-- ---- scripts

module _ (host : List ℕ) (v : BootView) (moment : ℕ) (fresh : List ℕ) (P : Fetched → Type 0)
    (local : P (Ok ([], local_script v.machine.arch))) (hold : P (Ok ([], hold_script))) (none : P (Err Exhausted))
    (again : (p : Purpose) (image : BootImage) (b : Boot) → class_of v.machine ≡ Work p → image_for p v ≡ Some image → offered_boot v.boot ≡ Some b → P (Ok ([], work_script host p v.machine.erase b image)))
    (fourth : offered_boot v.boot ≡ None → is_fourth v.machine ≡ true → P (answering hold_script (followed [] v moment (step_of v.machine FourthBoot))))
    (new : (p : Purpose) (image : BootImage) (number : ℕ) → class_of v.machine ≡ Work p → image_for p v ≡ Some image → is_fourth v.machine ≡ false → next_number v.numbers.boot ≡ Some number → P (issued host v p image fresh (Some number))) where
  by_number : (p : Purpose) (image : BootImage) → class_of v.machine ≡ Work p → image_for p v ≡ Some image → is_fourth v.machine ≡ false → (n : Option ℕ) → next_number v.numbers.boot ≡ n → P (issued host v p image fresh n)
  by_number p image works its few None next = none
  by_number p image works its few (Some number) next = new p image number works its few next

  by_fourth : (p : Purpose) (image : BootImage) → class_of v.machine ≡ Work p → image_for p v ≡ Some image → offered_boot v.boot ≡ None → (b : Bool) → is_fourth v.machine ≡ b
      → P (if b then answering hold_script (followed [] v moment (step_of v.machine FourthBoot)) else issued host v p image fresh (next_number v.numbers.boot))
  by_fourth p image works its offered true t = fourth offered t
  by_fourth p image works its offered false t = by_number p image works its t (next_number v.numbers.boot) refl

  by_offer : (p : Purpose) (image : BootImage) → class_of v.machine ≡ Work p → image_for p v ≡ Some image → (b : Option Boot) → offered_boot v.boot ≡ b → P (worked host v moment fresh p image b)
  by_offer p image works its (Some b) offered = again p image b works its offered
  by_offer p image works its None offered = by_fourth p image works its offered (is_fourth v.machine) refl

  by_image : (p : Purpose) → class_of v.machine ≡ Work p → (image : Option BootImage) → image_for p v ≡ image → P (worked_if host v moment fresh p image)
  by_image p works None its = hold
  by_image p works (Some image) its = by_offer p image works its (offered_boot v.boot) refl

  by_class : (c : ScriptClass) → class_of v.machine ≡ c → P (fetched_by c host v moment fresh)
  by_class Local is = local
  by_class Hold is = hold
  by_class (Work p) is = by_image p is (image_for p v) refl

  pub fetched_cases : P (fetched host v moment fresh)
  unfolding fetched
  fetched_cases = by_class (class_of v.machine) refl

-- ---- expiry

pub swept_cases : (v : BootView) (moment : ℕ) (P : List RowWrite → Type 0) → P []
    → (is_due v.machine.deadline moment ≡ true → (step : Step) (e : Entered) → step_of v.machine Expired ≡ Some step → entered v.machine step moment v.numbers ≡ Some e → P (entry_rows v.machine v.order e))
    → P (swept (Some v) moment)
unfolding swept followed
swept_cases v moment P none enters = by (is_due v.machine.deadline moment) refl
  where
    by : (b : Bool) → is_due v.machine.deadline moment ≡ b → P (if b then rows_or_none (followed [] v moment (step_of v.machine Expired)) else [])
    by true due =
        step_cases (λ (r : Result (List RowWrite) Refusal). P (rows_or_none r)) v.machine v.machine Expired moment v.numbers (followed [] v moment) (with_entry [] v.machine v.order)
        (λ step. refl) (λ stays. none) none (enters due)
    by false due = none

-- ---- reports

takes : (held : Stage) (progress : Progress) → standing_of held progress ≡ News → Takes held progress
takes stage.Offered progress is = tt
takes stage.Started report.Started is = cc
takes stage.Started progress is = tt
takes stage.Done report.Failed is = cc
takes stage.Done progress is = cc
takes stage.Failed report.Done is = cc
takes stage.Failed progress is = cc

is_own : (boot : Option ℕ) (number : ℕ) → is_current boot number ≡ true → boot ≡ Some number
is_own None number is = cc
is_own (Some boot) number is = ap (λ n. Some n) (eqb-true boot number is)

-- a report that is right counts
abbrev pub Counts : ReportView → List ℕ → Progress → Type 0
Counts r token progress = CountsFor r token progress × (is_wrong_stage progress r.asked.purpose r.at.machine.status ≡ false)

module _ (r : ReportView) (token : List ℕ) (progress : Progress) (moment : ℕ) (P : Judged → Type 0)
    (refused : (refusal : Refusal) → P (Err refusal)) (repeated : P (Ok ([], Repeat))) (counts : Counts r token progress → P (counted r progress moment)) where
  by_wrong : CountsFor r token progress → (b : Bool) → is_wrong_stage progress r.asked.purpose r.at.machine.status ≡ b → P (if b then Err WrongStage else counted r progress moment)
  by_wrong its true wrong = refused WrongStage
  by_wrong its false wrong = counts (its, wrong)

  by_current : r.asked.token ≡ token → standing_of r.asked.stage progress ≡ News → (b : Bool) → is_current r.at.machine.boot r.asked.number ≡ b
      → P (if b then (if is_wrong_stage progress r.asked.purpose r.at.machine.status then Err WrongStage else counted r progress moment) else Err Stale)
  by_current same news true now =
      by_wrong (record { token_is = same; current = is_own r.at.machine.boot r.asked.number now; takes = takes r.asked.stage progress news })
      (is_wrong_stage progress r.asked.purpose r.at.machine.status) refl
  by_current same news false now = refused Stale

  by_standing : r.asked.token ≡ token → (its : Standing) → standing_of r.asked.stage progress ≡ its → P (judged its r progress moment)
  by_standing same Repeated stands = repeated
  by_standing same Contradicted stands = refused Spent
  by_standing same News stands = by_current same stands (is_current r.at.machine.boot r.asked.number) refl

  by_token : (b : Bool) → bytes_eq r.asked.token token ≡ b → P (if b then judged (standing_of r.asked.stage progress) r progress moment else Err NoBoot)
  by_token true same = by_standing ((bytes_eq-Decides r.asked.token token).0 same) (standing_of r.asked.stage progress) refl
  by_token false same = refused NoBoot

  pub reported_cases : P (reported (Some r) token progress moment)
  unfolding reported
  reported_cases = by_token (bytes_eq r.asked.token token) refl

-- ---- answers to orders

module _ (r : OrderView) (given : Outcome) (moment : ℕ) (P : Judged → Type 0) (refused : (refusal : Refusal) → P (Err refusal)) (repeated : P (Ok ([], Repeat)))
    (waits : r.asked.stage ≡ orderstage.Waiting → P (answered_with (PutOrder (record r.asked { stage = stage_for given })) r.at moment (step_of r.at.machine (Answer given)))) where
  by_done : (o : Outcome) → P (answered_as orderstage.Done r o moment)
  by_done outcome.Done = repeated
  by_done outcome.Failed = refused Spent

  by_failed : (o : Outcome) → P (answered_as orderstage.Failed r o moment)
  by_failed outcome.Done = refused Spent
  by_failed outcome.Failed = repeated

  by_stage : (its : OrderStage) → r.asked.stage ≡ its → P (answered_as its r given moment)
  by_stage orderstage.Waiting is = waits is
  by_stage orderstage.Done is = by_done given
  by_stage orderstage.Failed is = by_failed given
  by_stage orderstage.Withdrawn is = refused Withdrawn

  pub answered_cases : P (answered (Some r) given moment)
  unfolding answered
  answered_cases = by_stage r.asked.stage refl

-- ---- reports and answers by their numbers, in a sound hall

module _ (h : Hall) (s : IsSound h) (number : ℕ) (moment : ℕ) (P : Judged → Type 0) (refused : (refusal : Refusal) → P (Err refusal)) (repeated : P (Ok ([], Repeat))) where
  pub report_cases : (token : List ℕ) (progress : Progress)
      → ((b : Boot) (m : Machine) → b.number ≡ number → at h.boots b.number ≡ Some b → b.machine ≡ m.id → at h.machines m.id ≡ Some m
      → Counts (record { asked = b; at = view_of h m }) token progress → P (counted (record { asked = b; at = view_of h m }) progress moment))
      → P (reported (report_view h number) token progress moment)
  unfolding reported
  report_cases token progress counts =
      row_cases (λ (b : Boot). b.number) h.boots s.keyed.boots number (λ x. P (reported (report_view_of h x) token progress moment)) (refused NoBoot)
      (λ b key there. row_cases (λ (m : Machine). m.id) h.machines s.keyed.machines b.machine (λ x. P (reported (report_view_with b (machine_view h x)) token progress moment)) (refused NoBoot)
      (λ m its was. reported_cases (record { asked = b; at = view_of h m }) token progress moment P refused repeated (counts b m key there (sym its) was)))

  pub order_cases : (given : Outcome)
      → ((o : Order) (m : Machine) → o.number ≡ number → at h.orders o.number ≡ Some o → o.machine ≡ m.id → at h.machines m.id ≡ Some m → o.stage ≡ orderstage.Waiting
      → P (answered_with (PutOrder (record o { stage = stage_for given })) (view_of h m) moment (step_of m (Answer given))))
      → P (answered (order_view h number) given moment)
  unfolding answered
  order_cases given waits =
      row_cases (λ (o : Order). o.number) h.orders s.keyed.orders number (λ x. P (answered (order_view_of h x) given moment)) (refused NoOrder)
      (λ o key there. row_cases (λ (m : Machine). m.id) h.machines s.keyed.machines o.machine (λ x. P (answered (order_view_with o (machine_view h x)) given moment)) (refused NoOrder)
      (λ m its was. answered_cases (record { asked = o; at = view_of h m }) given moment P refused repeated (waits o m key there (sym its) was)))
