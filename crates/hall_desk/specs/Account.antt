-- What an account of an arrival says.
use Rattle.std.specs.Prelude.{◌≡◌, ⊤, ℕ, Bool, false, not, List, Option, None, Some, Result, Ok, Err, IfSome, option_map, if◌then◌else◌}
use Rattle.hall_events.specs.declared.event.Event.TheVariants as event
use Rattle.hall_laws.specs.Decision.{decision_of}
use Rattle.hall_desk.specs.{Prelude.{Message, understood, Site, Answers, client_of, Client, NotServed, Hall, pair, next_expired, at, RowWrite, Role, Machine, Operator, Port, Receipt, HallCommand, Event, frame_decision, frame_view, Decision, Enlist, machine_view, order_view, report_view, view_at, may_send, needs_admin, sender, command_view, IsEvent, may_answer}, Moved.moved_by, Octets.IsFrom, declared.{account.{Account.Account, Came.Came, Found.Found, Notes.Notes}, arrival.{Answer.Answer, Input.Input}}}
use Rattle.hall_desk.specs.declared.account.Came.TheVariants as came
use Rattle.hall_desk.specs.declared.arrival.Answer.TheVariants as answer
use Rattle.hall_desk.specs.declared.arrival.Input.TheVariants as input

-- a message came in these octets, and this is the first cause not to answer it, unless memory ran out
pub record IsUnanswered (octets : List ℕ) (cause : NotServed) : Type 0 where
  pub message : Message
  pub read : understood octets ≡ Ok message
  pub first : Answers (Err cause) (client_of message)

-- a message of this client came in these octets
pub record IsMessageOf (octets : List ℕ) (client : Client) : Type 0 where
  pub message : Message
  pub from : IsFrom octets message client

-- what came is what its octets say
abbrev pub IsReadAs : Input → Came → Type 0
IsReadAs (input.Datagram port octets) (came.Malformed fault) = understood octets ≡ Err fault
IsReadAs (input.Datagram port octets) (came.NotServed cause) = IsUnanswered octets cause
IsReadAs (input.Datagram port octets) (came.Client client) = IsMessageOf octets client
IsReadAs (input.Request octets) (came.Refused fault) = IsEvent octets (Err fault)
IsReadAs (input.Request octets) (came.Asked e) = IsEvent octets (Ok e)
IsReadAs input.Quiet came.Quiet = ⊤
IsReadAs input came = ⊥

-- ---- what is found

-- the operator whose token came, if it is one's
abbrev pub sent_by : Option Operator → Found → Found
sent_by None found = found
sent_by (Some operator) found = record found { operator = Some operator.name }

-- the machine that an arrival is about, if there is one
abbrev pub about : Option Machine → Found → Found
about None found = found
about (Some m) found = record found { machine = Some (record { machine = m.id; status = m.status }) }

-- ---- who sent an event, and the machine that it is about

-- the operator whose token came, enabled or not
abbrev pub sender_of : Hall → Event → Option Operator
sender_of h (event.Orders bearer) = sender h bearer
sender_of h (event.OrderAnswer bearer order outcome) = sender h bearer
sender_of h (event.Machines bearer) = sender h bearer
sender_of h (event.OneMachine bearer machine) = sender h bearer
sender_of h (event.Command bearer key command) = sender h bearer
sender_of h other = None

-- the machine, if the sender is known, enabled and of a role that may ask
abbrev pub if_may : (Role → Bool) → Option Operator → Option Machine → Option Machine
if_may may None m = None
if_may may (Some o) m = if o.enabled then (if may o.role then m else None) else None

-- the machine that a command names, if its sender may send it
abbrev pub machine_named : Hall → Operator → HallCommand → Option Machine
machine_named h o command = if may_send o.role (needs_admin command) then (command_view h o command).machine else None

-- a command that came before is about none
abbrev pub machine_keyed : Hall → Operator → Option Receipt → HallCommand → Option Machine
machine_keyed h o (Some r) command = None
machine_keyed h o None command = machine_named h o command

abbrev pub machine_sent : Hall → Option Operator → List ℕ → HallCommand → Option Machine
machine_sent h None key command = None
machine_sent h (Some o) key command = if o.enabled then machine_keyed h o (at h.receipts (pair o.name key)) command else None

-- the machine that an event is about at a moment: that of an address, a boot, an order or a command, or the one whose deadline comes first
abbrev pub machine_of : Hall → ℕ → Event → Option Machine
machine_of h moment (event.Script mac) = option_map (λ v. v.machine) (view_at h mac)
machine_of h moment (event.Report boot token progress) = option_map (λ v. v.at.machine) (report_view h boot)
machine_of h moment (event.OrderAnswer bearer order outcome) = if_may may_answer (sender h bearer) (option_map (λ v. v.at.machine) (order_view h order))
machine_of h moment (event.Command bearer key command) = machine_sent h (sender h bearer) key command
machine_of h moment event.Quiet = option_map (λ v. v.machine) (machine_view h (next_expired h moment))
machine_of h moment other = None

-- ---- what is noted of an arrival

-- the sender and the machine of an event
abbrev pub found_for : Hall → ℕ → Event → Found → Found
found_for h moment e found = about (machine_of h moment e) (sent_by (sender_of h e) found)

abbrev pub nothing_found : Found
nothing_found = record { operator = None; machine = None }

abbrev pub with_found : Found → Notes → Notes
with_found found notes = record notes { operator = found.operator; machine = found.machine }

-- the move that these rows make of the machine that was found
abbrev pub with_move : List RowWrite → Notes → Notes
with_move rows notes = record notes { moved = moved_by notes.machine rows }

-- nothing was found or changed
abbrev pub nothing_noted : Notes
nothing_noted = record { decision = None; unlisted = false; operator = None; machine = None; moved = None }

-- all of an event that was carried out
abbrev pub noted_of : Site → Hall → Event → ℕ → List ℕ → Notes
noted_of site h e moment fresh = with_move (decision_of site h e moment fresh).rows (with_found (found_for h moment e nothing_found) nothing_noted)

-- a client that is to be enlisted isn't, by a desk that doesn't enlist
abbrev pub is_unlisted : Bool → Decision → Bool
is_unlisted enlists Enlist = not enlists
is_unlisted enlists other = false

-- the decision on a client's frame is the hall's, and it says whether nobody was enlisted for it
abbrev pub IsDecided : Bool → Hall → Port → Client → Notes → Type 0
IsDecided enlists h port client notes = IfSome notes.decision (λ its. (its ≡ frame_decision (frame_view h client) port client) × (notes.unlisted ≡ is_unlisted enlists its))

-- the machine that a client's frame makes, if it was carried out
abbrev pub IsMoved : Site → Hall → Port → Client → ℕ → List ℕ → Answer → Notes → Type 0
IsMoved site h port client moment fresh (answer.Frame octets) notes = notes.moved ≡ moved_by None (decision_of site h (event.Frame port client) moment fresh).rows
IsMoved site h port client moment fresh other notes = notes.moved ≡ None

-- an event was carried out, and all of it is noted; or it counts as not having come, and moved no machine
abbrev pub IsNoted : Site → Hall → Event → ℕ → List ℕ → Answer → Notes → Type 0
IsNoted site h e moment fresh answer.Unavailable notes = notes.moved ≡ None
IsNoted site h e moment fresh other notes = notes ≡ noted_of site h e moment fresh

-- what is noted of what was found in the hall, and changed
abbrev pub IsFound : Bool → Site → Hall → Input → ℕ → List ℕ → Answer → Account → Type 0
IsFound enlists site h (input.Datagram port octets) moment fresh a account =
    (client : Client) → account.came ≡ came.Client client → IsDecided enlists h port client account.notes × IsMoved site h port client moment fresh a account.notes
IsFound enlists site h (input.Request octets) moment fresh a account = (e : Event) → account.came ≡ came.Asked e → IsNoted site h e moment fresh a account.notes
IsFound enlists site h input.Quiet moment fresh a account = IsNoted site h event.Quiet moment fresh a account.notes

-- the answer that was given, or that of an arrival that counts as not having come
abbrev pub given_or : {E : Type 0} → Answer → Result Answer E → Answer
given_or missed (Ok a) = a
given_or missed (Err e) = missed

-- what came is a datagram
abbrev pub IsDatagram : Input → Type 0
IsDatagram (input.Datagram port octets) = ⊤
IsDatagram other = ⊥
