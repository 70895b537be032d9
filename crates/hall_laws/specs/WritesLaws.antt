-- What each decision writes.
use Rattle.std.{specs.Prelude.{ℕ, Bool, true, false, List, Option, Some, None, map, if◌then◌else◌}, proofs.Common.refl}
use Rattle.hall_types.specs.Rows.{at, listed as rows_of}
use Rattle.hall_types.specs.declared.refusal.Refusal.TheVariants as cause
use Rattle.hall_events.specs.declared.event.Event.TheVariants as event
use Rattle.boot_desk.specs.OrderAnswer.{answered}
use Rattle.hall_laws.specs.{Prelude.{Site, Hall, waiting, Role, Machine, Operator, Refusal, machine_list, one_machine, waiting_orders, Event, IsSound, order_view, sender}, Decision.{Decided, decision_of, if_role, judged, listed_if, listed_of, may_answer, may_see_machines, may_see_orders, refuses, says}, CommandLaws.command_writes, EventLaws.{Decides, answer_writes, frame_writes, quiet_writes, report_writes, script_writes}, Writes.{WritesAll, without_receipt, writes_nothing}}

-- an operator that may not ask is refused
pub role_cases : (P : Decided → Type 0) → ((why : Refusal) → P (refuses why)) → (may : Role → Bool) (o : Option Operator) (d : Decided) → P d → P (if_role may o d)
role_cases P refused may None d its = refused cause.UnknownToken
role_cases P refused may (Some o) d its = by o.enabled (may o.role)
  where
    by : (enabled allowed : Bool) → P (if enabled then (if allowed then d else refuses cause.RoleNeeded) else refuses cause.UnknownToken)
    by true true = its
    by true false = refused cause.RoleNeeded
    by false allowed = refused cause.UnknownToken

-- a machine that isn't recorded isn't listed
pub listed_cases : (P : Decided → Type 0) → P (refuses cause.NoMachine) → (h : Hall) → ((m : Machine) → P (says (one_machine (listed_of h m)))) → (m : Option Machine) → P (listed_if h m)
listed_cases P none h some None = none
listed_cases P none h some (Some m) = some m

-- what a hall's decision writes
pub decision_writes : (site : Site) (h : Hall) → IsSound h → (e : Event) (moment : ℕ) (fresh : List ℕ) → WritesAll h e moment fresh (decision_of site h e moment fresh)
unfolding decision_of
decision_writes site h s (event.Frame port client) moment fresh = without_receipt (λ c. cc) (frame_writes h s moment fresh site port client)
decision_writes site h s (event.Script mac) moment fresh = without_receipt (λ c. cc) (script_writes h s moment fresh site.host mac)
decision_writes site h s (event.Report boot token progress) moment fresh = without_receipt (λ c. cc) (report_writes h s moment fresh boot token progress)
decision_writes site h s (event.Orders bearer) moment fresh =
    without_receipt (λ c. cc) (role_cases (Decides h (event.Orders bearer) moment fresh) (λ why. writes_nothing (λ e. cc) refl) may_see_orders (sender h bearer) (says (waiting_orders (waiting h))) (writes_nothing (λ e. cc) refl))
decision_writes site h s (event.OrderAnswer bearer order outcome) moment fresh =
    without_receipt (λ c. cc) (role_cases (Decides h (event.OrderAnswer bearer order outcome) moment fresh) (λ why. writes_nothing (λ e. cc) refl) may_answer (sender h bearer)
    (judged (answered (order_view h order) outcome moment)) (answer_writes h s moment fresh bearer order outcome))
decision_writes site h s (event.Machines bearer) moment fresh =
    without_receipt (λ c. cc) (role_cases (Decides h (event.Machines bearer) moment fresh) (λ why. writes_nothing (λ e. cc) refl) may_see_machines (sender h bearer)
    (says (machine_list (map (listed_of h) (rows_of h.machines)))) (writes_nothing (λ e. cc) refl))
decision_writes site h s (event.OneMachine bearer machine) moment fresh =
    without_receipt (λ c. cc) (role_cases (Decides h (event.OneMachine bearer machine) moment fresh) (λ why. writes_nothing (λ e. cc) refl) may_see_machines (sender h bearer) (listed_if h (at h.machines machine))
    (listed_cases (Decides h (event.OneMachine bearer machine) moment fresh) (writes_nothing (λ e. cc) refl) h (λ m. writes_nothing (λ e. cc) refl) (at h.machines machine)))
decision_writes site h s (event.Command bearer key command) moment fresh = command_writes h s bearer key command moment fresh
decision_writes site h s event.Quiet moment fresh = without_receipt (λ c. cc) (quiet_writes h s moment fresh)
