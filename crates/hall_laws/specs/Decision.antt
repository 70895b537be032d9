-- What a hall makes of an event: the rows to write, and what is answered.
use Rattle.std.specs.Prelude.{ℕ, Bool, true, false, List, [], map, Option, Some, None, Ok, Err, if◌then◌else◌}
use Rattle.hall_laws.specs.Prelude.{boot_file_of, Site, Client, Hall, interfaces_of, next_expired, waiting, RowWrite, Role, Machine, Operator, Refusal, Content, ListedMachine, script, refused, counted, waiting_orders, machine_list, one_machine, boot_file, nothing, Event, Fetched, enlisted, frame_view, Judged, order_view, report_view, view_at, Verdict, Counted, Repeat, Loader, ScriptUrl, Enlist, Silent, BootView, sender}
use Rattle.hall_types.specs.Rows.{at, listed as rows_of}
use Rattle.hall_types.specs.declared.kinds.Role.TheVariants as role
use Rattle.hall_types.specs.declared.refusal.Refusal.TheVariants as cause
use Rattle.hall_events.specs.Reply.{listed, repeated}
use Rattle.hall_events.specs.declared.event.Event.TheVariants as event
use Rattle.boot_desk.specs.{Expiry.swept, Fetch.fetched, FrameEvent.frame_decision, OrderAnswer.answered, Report.reported, Views.machine_view, declared.frames.Decision.Decision as FrameDecision}
use Rattle.desk_command.specs.{Command.command_decision, Effect.Effect}

-- the rows to write, and what is answered
pub record Decided : Type 0 where
  pub rows : List RowWrite
  pub content : Content

-- an answer that writes nothing
abbrev pub says : Content → Decided
says content = record { rows = []; content = content }

-- the answer that refuses for a cause
abbrev pub refuses : Refusal → Decided
refuses refusal = says (refused refusal)

-- ---- frames

-- a client is given its boot file, an unknown one once it is enlisted, or silence
abbrev pub framed : FrameDecision → Site → Hall → Client → Decided
framed Loader site h client = says (boot_file (boot_file_of client site))
framed ScriptUrl site h client = says (boot_file (boot_file_of client site))
framed Enlist site h client = record { rows = enlisted client h.last; content = boot_file (boot_file_of client site) }
framed (Silent silence) site h client = says nothing

-- ---- machines: scripts and reports

abbrev pub given : Fetched → Decided
given (Ok answer) = record { rows = answer.0; content = script answer.1 }
given (Err refusal) = refuses refusal

-- the script of the machine that an address is recorded with
abbrev pub given_if : List ℕ → Option BootView → ℕ → List ℕ → Decided
given_if host None moment fresh = refuses cause.NoMachine
given_if host (Some v) moment fresh = given (fetched host v moment fresh)

abbrev pub verdict_content : Verdict → Content
verdict_content Counted = counted
verdict_content Repeat = repeated

abbrev pub judged : Judged → Decided
judged (Ok decision) = record { rows = decision.0; content = verdict_content decision.1 }
judged (Err refusal) = refuses refusal

-- ---- operators: orders, listings, commands

-- the answer to the sender if it is known, enabled and of a role that may ask
abbrev pub if_role : (Role → Bool) → Option Operator → Decided → Decided
if_role may None decided = refuses cause.UnknownToken
if_role may (Some o) decided =
    if o.enabled then (if may o.role then decided else refuses cause.RoleNeeded) else refuses cause.UnknownToken

-- the power program and admins see the orders
abbrev pub may_see_orders : Role → Bool
may_see_orders role.User = false
may_see_orders other = true

-- the power program alone answers orders
abbrev pub may_answer : Role → Bool
may_answer role.Power = true
may_answer other = false

-- users and admins see machines
abbrev pub may_see_machines : Role → Bool
may_see_machines role.Power = false
may_see_machines other = true

-- a machine with its interfaces by address
abbrev pub listed_of : Hall → Machine → ListedMachine
listed_of h m = listed m (interfaces_of h m.id)

abbrev pub listed_if : Hall → Option Machine → Decided
listed_if h None = refuses cause.NoMachine
listed_if h (Some m) = says (one_machine (listed_of h m))

abbrev pub commanded : Effect → Decided
commanded (Ok decision) = record { rows = decision.0; content = decision.1 }
commanded (Err refusal) = refuses refusal

-- ---- all events

-- What a hall makes of an event at this place, at this moment, with these fresh octets. It is meant for halls of the second schema:
-- a release or an erasing writes a kind of erasing, which no hall of the first schema stores, until it is carried over.
unfoldable pub decision_of : Site → Hall → Event → ℕ → List ℕ → Decided
decision_of site h (event.Frame port client) moment fresh = framed (frame_decision (frame_view h client) port client) site h client
decision_of site h (event.Script mac) moment fresh = given_if site.host (view_at h mac) moment fresh
decision_of site h (event.Report boot token progress) moment fresh = judged (reported (report_view h boot) token progress moment)
decision_of site h (event.Orders bearer) moment fresh =
    if_role may_see_orders (sender h bearer) (says (waiting_orders (waiting h)))
decision_of site h (event.OrderAnswer bearer order outcome) moment fresh =
    if_role may_answer (sender h bearer) (judged (answered (order_view h order) outcome moment))
decision_of site h (event.Machines bearer) moment fresh =
    if_role may_see_machines (sender h bearer) (says (machine_list (map (listed_of h) (rows_of h.machines))))
decision_of site h (event.OneMachine bearer machine) moment fresh =
    if_role may_see_machines (sender h bearer) (listed_if h (at h.machines machine))
decision_of site h (event.Command bearer key command) moment fresh = commanded (command_decision h bearer key command moment)
decision_of site h event.Quiet moment fresh = record { rows = swept (machine_view h (next_expired h moment)) moment; content = nothing }
