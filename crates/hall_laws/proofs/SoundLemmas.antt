-- A sound hall of the second schema stays one at every step.
use Rattle.std.{specs.Prelude.{◌≡◌, ℕ, List, Option, Some, None, Ok, Err, map}, proofs.Common.{refl, sym, ap, subst, inl, inr, ◌∙◌}}
use Rattle.ipxe_script.specs.declared.command.Command.{Command}
use Rattle.hall_types.specs.Rows.{at, listed as rows_of}
use Rattle.hall_events.specs.declared.event.Event.TheVariants as event
use Rattle.boot_desk.specs.{Expiry.swept, Fetch.fetched, FrameEvent.frame_decision, OrderAnswer.answered, Report.reported, Views.machine_view, declared.frames.Decision.Decision as FrameDecision}
use Rattle.desk_command.specs.{Command.command_decision, Effect.Effect}
use Rattle.hall_laws.specs.{Prelude.{Site, Client, applied_schema, Hall, applied, second, next_expired, waiting, next_expired-is, row_cases, RowWrite, Outcome, Progress, Interface, Machine, Port, Content, machine_list, waiting_orders, HallCommand, Event, Fetched, enlisted, frame_view, Judged, IsSound, interface_view, order_view, report_view, view_of, Verdict, Enlist, sender}, Decision.{Decided, commanded, decision_of, framed, given, given_if, judged, listed_if, listed_of, may_answer, may_see_machines, may_see_orders, says}, Step.{IsStep, Step}, WritesLaws.{listed_cases, role_cases}}

-- what the decisions' own laws say of sound halls
pub record KeepSound : Type 0 where
  pub scripts : (h : Hall) (m : Machine) (host fresh : List ℕ) (moment : ℕ) (rows : List RowWrite) (script : List Command)
      → IsSound h → at h.machines m.id ≡ Some m → fetched host (view_of h m) moment fresh ≡ Ok (rows, script) → IsSound (applied rows h)
  pub reports : (h : Hall) (number : ℕ) (token : List ℕ) (progress : Progress) (moment : ℕ) (rows : List RowWrite) (verdict : Verdict)
      → IsSound h → reported (report_view h number) token progress moment ≡ Ok (rows, verdict) → IsSound (applied rows h)
  pub answers : (h : Hall) (number : ℕ) (outcome : Outcome) (moment : ℕ) (rows : List RowWrite) (verdict : Verdict)
      → IsSound h → answered (order_view h number) outcome moment ≡ Ok (rows, verdict) → IsSound (applied rows h)
  pub expiries : (h : Hall) (m : Machine) (moment : ℕ)
      → IsSound h → at h.machines m.id ≡ Some m → IsSound (applied (swept (Some (view_of h m)) moment) h)
  pub enlistings : (h : Hall) (client : Client) (port : Port)
      → IsSound h → frame_decision (frame_view h client) port client ≡ Enlist → IsSound (applied (enlisted client h.last) h)
  pub commands : (h : Hall) (bearer : Option (List ℕ)) (key : List ℕ) (command : HallCommand) (moment : ℕ) (rows : List RowWrite) (content : Content)
      → IsSound h → h.schema ≡ second → command_decision h bearer key command moment ≡ Ok (rows, content) → IsSound (applied rows h)

abbrev Keeps : Hall → Decided → Type 0
Keeps h d = IsSound (applied d.rows h)

module _ (k : KeepSound) where
  -- ---- decisions

  module _ (site : Site) (h : Hall) (s : IsSound h) (moment : ℕ) (fresh : List ℕ) where
    frame_keeps : (port : Port) (client : Client) (d : FrameDecision) → frame_decision (frame_view h client) port client ≡ d → Keeps h (framed d site h client)
    frame_keeps port client Enlist is = k.enlistings h client port s is
    frame_keeps port client other is = s

    given_keeps : (m : Machine) → at h.machines m.id ≡ Some m → (answer : Fetched) → fetched site.host (view_of h m) moment fresh ≡ answer → Keeps h (given answer)
    given_keeps m was (Ok d) is = k.scripts h m site.host fresh moment d.0 d.1 s was is
    given_keeps m was (Err refusal) is = s

    script_keeps : (x : Option Interface) → Keeps h (given_if site.host (interface_view h x) moment fresh)
    script_keeps None = s
    script_keeps (Some i) =
        row_cases (λ (m : Machine). m.id) h.machines s.keyed.machines i.machine (λ x. Keeps h (given_if site.host (machine_view h x) moment fresh)) s
        (λ m own was. given_keeps m was (fetched site.host (view_of h m) moment fresh) refl)

    report_keeps : (number : ℕ) (token : List ℕ) (progress : Progress) (j : Judged) → reported (report_view h number) token progress moment ≡ j → Keeps h (judged j)
    report_keeps number token progress (Ok d) is = k.reports h number token progress moment d.0 d.1 s is
    report_keeps number token progress (Err refusal) is = s

    answer_keeps : (number : ℕ) (outcome : Outcome) (j : Judged) → answered (order_view h number) outcome moment ≡ j → Keeps h (judged j)
    answer_keeps number outcome (Ok d) is = k.answers h number outcome moment d.0 d.1 s is
    answer_keeps number outcome (Err refusal) is = s

    command_keeps : h.schema ≡ second → (bearer : Option (List ℕ)) (key : List ℕ) (command : HallCommand) (e : Effect) → command_decision h bearer key command moment ≡ e → Keeps h (commanded e)
    command_keeps in_second bearer key command (Ok d) is = k.commands h bearer key command moment d.0 d.1 s in_second is
    command_keeps in_second bearer key command (Err refusal) is = s

    quiet_keeps : (x : Option Machine) → next_expired h moment ≡ x → IsSound (applied (swept (machine_view h x) moment) h)
    unfolding swept
    quiet_keeps None is = s
    quiet_keeps (Some m) is = k.expiries h m moment s (next_expired-is h s.keyed.machines moment m is).recorded

  pub decision_keeps : (site : Site) (h : Hall) (e : Event) (moment : ℕ) (fresh : List ℕ) → IsSound h → h.schema ≡ second → IsSound (applied (decision_of site h e moment fresh).rows h)
  unfolding decision_of
  decision_keeps site h (event.Frame port client) moment fresh s in_second = frame_keeps site h s moment fresh port client (frame_decision (frame_view h client) port client) refl
  decision_keeps site h (event.Script mac) moment fresh s in_second = script_keeps site h s moment fresh (at h.interfaces mac)
  decision_keeps site h (event.Report boot token progress) moment fresh s in_second =
      report_keeps site h s moment fresh boot token progress (reported (report_view h boot) token progress moment) refl
  decision_keeps site h (event.Orders bearer) moment fresh s in_second =
      role_cases (Keeps h) (λ why. s) may_see_orders (sender h bearer) (says (waiting_orders (waiting h))) s
  decision_keeps site h (event.OrderAnswer bearer order outcome) moment fresh s in_second =
      role_cases (Keeps h) (λ why. s) may_answer (sender h bearer) (judged (answered (order_view h order) outcome moment))
      (answer_keeps site h s moment fresh order outcome (answered (order_view h order) outcome moment) refl)
  decision_keeps site h (event.Machines bearer) moment fresh s in_second =
      role_cases (Keeps h) (λ why. s) may_see_machines (sender h bearer) (says (machine_list (map (listed_of h) (rows_of h.machines)))) s
  decision_keeps site h (event.OneMachine bearer machine) moment fresh s in_second =
      role_cases (Keeps h) (λ why. s) may_see_machines (sender h bearer) (listed_if h (at h.machines machine)) (listed_cases (Keeps h) s h (λ m. s) (at h.machines machine))
  decision_keeps site h (event.Command bearer key command) moment fresh s in_second =
      command_keeps site h s moment fresh in_second bearer key command (command_decision h bearer key command moment) refl
  decision_keeps site h event.Quiet moment fresh s in_second = quiet_keeps site h s moment fresh (next_expired h moment) refl

  -- ---- steps

  pub step_keeps : (x : Step) → IsStep x → IsSound x.before → x.before.schema ≡ second → IsSound x.after × (x.after.schema ≡ second)
  step_keeps x (inl came) s in_second =
      let rows = (decision_of x.arrival.site x.before x.arrival.event x.arrival.moment x.arrival.fresh).rows in (
        subst IsSound (sym came.after) (decision_keeps x.arrival.site x.before x.arrival.event x.arrival.moment x.arrival.fresh s in_second),
        ap (λ (h : Hall). h.schema) came.after ∙ applied_schema rows x.before ∙ in_second,
      )
  step_keeps x (inr missed) s in_second = (subst IsSound (sym missed.after) s, ap (λ (h : Hall). h.schema) missed.after ∙ in_second)
