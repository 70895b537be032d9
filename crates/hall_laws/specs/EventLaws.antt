-- What frames, script requests, reports, answers to orders and quiet moments write.
use Rattle.std.{specs.Prelude.{◌≡◌, ◌++◌, ℕ, List, [], Option, Some, None, Result}, proofs.Common.{refl, sym, ap, inl, inr}}
use Rattle.hall_laws.specs.{Prelude.{Site, Client, Hall, next_expired, next_expired-is, row_cases, RowWrite, Outcome, Progress, Interface, Machine, Port, Refusal, Content, nothing, Event, entered, Entered, Signal, Answer, Expired, FourthBoot, Counted, Enlist, fetched_cases, order_cases, report_cases, step_cases, swept_cases, Fetched, answering, entry_rows, with_entry, enlisted_as, frame_view, enlists, answered_with, stage_for, Judged, IsSound, interface_view, order_view, report_view, row_at, view_at, view_of}, Decision.{Decided, framed, given, given_if, judged as judgement}, Writes.{CauseOf, First, IsOrderAnswered, IsReported, Writes, boot_first, enters_status, first_rows, issues_boot, makes_machine, ends_waiting, notes_report, nothing_first, order_first, withdrawn_at, writes_nothing}}
use Rattle.hall_types.specs.Rows.{at}
use Rattle.hall_types.specs.declared.change.RowWrite.TheVariants as write
use Rattle.hall_events.specs.Reply.{counted as counted_answer}
use Rattle.hall_events.specs.declared.event.Event.TheVariants as event
use Rattle.life_cycle.specs.{Table.step_of, declared.{signal.Signal.TheVariants.Report, step.Step.Step}}
use Rattle.boot_desk.specs.{declared.frames.Decision.Decision as FrameDecision, Expiry.swept, Fetch.fetched, Following.followed, FrameEvent.{frame_decision, new_machine}, OrderAnswer.answered, Report.reported, Texts.hold_script, Views.machine_view}

abbrev pub Decides : Hall → Event → ℕ → List ℕ → Decided → Type 0
Decides h e moment fresh d = Writes h e moment fresh d.rows d.content

module _ (h : Hall) (s : IsSound h) (moment : ℕ) (fresh : List ℕ) where
  -- a machine enters its status as it is
  enters_itself : (e : Event) (content : Content) (m : Machine) (signal : Signal) (first : First) (step : Step) (new : Entered) → at h.machines m.id ≡ Some m
      → CauseOf h e moment content m m signal first → step_of m signal ≡ Some step → entered m step moment h.last ≡ Some new
      → Writes h e moment fresh (first_rows first ++ entry_rows m (withdrawn_at h m first) new) content
  enters_itself e content m signal first step new found cause leads enters =
      enters_status (record { machine = m; entering = m; signal = signal; first = first; step = step; new = new; found = found; cause = cause; leads = leads; enters = enters; rows_are = refl })

  -- ---- frames

  pub frame_writes : (site : Site) (port : Port) (client : Client) → Decides h (event.Frame port client) moment fresh (framed (frame_decision (frame_view h client) port client) site h client)
  frame_writes site port client = by (frame_decision (frame_view h client) port client) refl
    where
      by : (d : FrameDecision) → frame_decision (frame_view h client) port client ≡ d → Decides h (event.Frame port client) moment fresh (framed d site h client)
      by Enlist is =
          let found = enlists h client port s is in
          makes_machine (inl (port, client, refl)) (record {
            machine = new_machine found.0 client;
            interface = record { mac = client.mac; machine = found.0 };
            new = refl;
            next = found.1.next;
            its = refl;
            free = found.1.free;
            rows_are = ap (λ n. enlisted_as n client h.last) found.1.next;
          })
      by other is = writes_nothing (λ e. cc) refl

  -- ---- scripts and expiry

  -- scripts of a machine
  module _ (host mac : List ℕ) (i : Interface) (recorded : at h.interfaces mac ≡ Some i) (m : Machine) (its : i.machine ≡ m.id) (was : at h.machines m.id ≡ Some m) where
    abbrev Gives : Fetched → Type 0
    Gives answer = Decides h (event.Script mac) moment fresh (given answer)

    fetch_writes : Gives (fetched host (view_of h m) moment fresh)
    unfolding followed
    fetch_writes =
        fetched_cases host (view_of h m) moment fresh Gives
        (writes_nothing (λ e. cc) refl) (writes_nothing (λ e. cc) refl) (writes_nothing (λ e. cc) refl) (λ p image b works image_is offered. writes_nothing (λ e. cc) refl)
        (λ not_offered fourth.
        step_cases (λ (r : Result (List RowWrite) Refusal). Gives (answering hold_script r)) m m FourthBoot moment h.last (followed [] (view_of h m) moment) (with_entry [] m (row_at h.orders m.waiting)) (λ step. refl)
        (λ stays. writes_nothing (λ e. cc) refl) (writes_nothing (λ e. cc) refl)
        (λ step new leads is. enters_itself _ _ m FourthBoot nothing_first step new was
        (inr (refl, inr (record { mac = mac; interface = i; recorded = recorded; its = its; not_offered = not_offered; event_is = refl; answer = refl; fourth = fourth; signal_is = refl }))) leads is))
        (λ p image number works image_is few next. issues_boot (record {
          machine = m;
          number = number;
          purpose = p;
          mac = mac;
          event_is = refl;
          found = was;
          works = works;
          next = next;
          rows_are = refl;
        }))

  pub script_writes : (host mac : List ℕ) → Decides h (event.Script mac) moment fresh (given_if host (view_at h mac) moment fresh)
  script_writes host mac = by (at h.interfaces mac) refl
    where
      by : (x : Option Interface) → at h.interfaces mac ≡ x → Decides h (event.Script mac) moment fresh (given_if host (interface_view h x) moment fresh)
      by None is = writes_nothing (λ e. cc) refl
      by (Some i) is =
          row_cases (λ (m : Machine). m.id) h.machines s.keyed.machines i.machine (λ x. Decides h (event.Script mac) moment fresh (given_if host (machine_view h x) moment fresh))
          (writes_nothing (λ e. cc) refl) (λ m own was. fetch_writes host mac i is m (sym own) was)

  pub quiet_writes : Writes h event.Quiet moment fresh (swept (machine_view h (next_expired h moment)) moment) nothing
  unfolding swept
  quiet_writes = by (next_expired h moment) refl
    where
      by : (x : Option Machine) → next_expired h moment ≡ x → Writes h event.Quiet moment fresh (swept (machine_view h x) moment) nothing
      by None is = writes_nothing (λ e. cc) refl
      by (Some m) is =
          swept_cases (view_of h m) moment (λ rows. Writes h event.Quiet moment fresh rows nothing) (writes_nothing (λ e. cc) refl)
          (λ due step new leads enters. enters_itself _ _ m Expired nothing_first step new (next_expired-is h s.keyed.machines moment m is).recorded
          (inr (refl, inl (record { event_is = refl; due = due; signal_is = refl }))) leads enters)

  -- ---- reports

  pub report_writes : (number : ℕ) (token : List ℕ) (progress : Progress) → Decides h (event.Report number token progress) moment fresh (judgement (reported (report_view h number) token progress moment))
  unfolding followed
  report_writes number token progress =
      report_cases h s number moment Reports (λ refusal. writes_nothing (λ e. cc) refl) (writes_nothing (λ e. cc) refl) token progress (λ b m key stands its was c.
      let cause : IsReported h (event.Report number token progress) counted_answer m b progress = record {
        token = token;
        event_is = ap (λ n. event.Report n token progress) (sym key);
        answer = refl;
        recorded = stands;
        its = its;
        current = c.0.current;
        token_is = c.0.token_is;
        takes = c.0.takes;
      } in
      step_cases (λ (r : Result (List RowWrite) Refusal). Reports (answering Counted r)) m m (Report progress) moment h.last
      (followed (first_rows (boot_first b progress)) (view_of h m) moment) (with_entry (first_rows (boot_first b progress)) m (row_at h.orders m.waiting)) (λ step. refl)
      (λ stays. notes_report (record { machine = m; boot = b; progress = progress; found = was; cause = cause; stays = stays; rows_are = refl })) (writes_nothing (λ e. cc) refl)
      (λ step new leads is. enters_itself _ _ m (Report progress) (boot_first b progress) step new was (refl, refl, cause) leads is))
    where
      Reports : Judged → Type 0
      Reports j = Decides h (event.Report number token progress) moment fresh (judgement j)

  -- ---- answers to orders

  pub answer_writes : (bearer : Option (List ℕ)) (number : ℕ) (outcome : Outcome) → Decides h (event.OrderAnswer bearer number outcome) moment fresh (judgement (answered (order_view h number) outcome moment))
  answer_writes bearer number outcome =
      order_cases h s number moment Answers (λ refusal. writes_nothing (λ e. cc) refl) (writes_nothing (λ e. cc) refl) outcome (λ o m key stands its was waits.
      let cause : IsOrderAnswered h (event.OrderAnswer bearer number outcome) counted_answer m o outcome = record {
        bearer = bearer;
        event_is = ap (λ n. event.OrderAnswer bearer n outcome) (sym key);
        answer = refl;
        recorded = stands;
        its = its;
        waits = waits;
      } in
      step_cases Answers m m (Answer outcome) moment h.last
      (answered_with (write.PutOrder (record o { stage = stage_for outcome })) (view_of h m) moment) (λ e. answering Counted (with_entry (first_rows (order_first o outcome)) m None e)) (λ step. refl)
      (λ stays. ends_waiting (record { machine = m; order = o; outcome = outcome; found = was; cause = cause; stays = stays; rows_are = refl })) (writes_nothing (λ e. cc) refl)
      (λ step new leads is. enters_itself _ _ m (Answer outcome) (order_first o outcome) step new was (refl, refl, cause) leads is))
    where
      Answers : Judged → Type 0
      Answers j = Decides h (event.OrderAnswer bearer number outcome) moment fresh (judgement j)
