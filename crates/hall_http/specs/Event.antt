-- The event that a request makes.
use Rattle.std.specs.Prelude.{ℕ, List, Option, Result, Ok, Err, ok_or, nat_le, length, take, if◌then◌else◌}
use Rattle.hall_events.specs.declared.event.Event.TheVariants as event
use Rattle.hall_http.specs.{Prelude.Event, Command.{command_in, progress_in, outcome_in}, declared.{demand.Demand.Demand, fault.HttpFault.{HttpFault, TheVariants.BadRequest}}, Answer.◌>>=◌, Demand.demand_of, Fields.FieldPair}
use Rattle.hall_http.specs.declared.demand.Demand.TheVariants as demand

-- the body: so many octets of what follows the head
abbrev pub body_of : ℕ → List ℕ → Result (List ℕ) HttpFault
body_of size after = if nat_le size (length after) then Ok (take size after) else Err BadRequest

abbrev pub report_event : ℕ → List ℕ → ℕ → List ℕ → Result Event HttpFault
report_event boot token size after = do
  body ← body_of size after
  progress ← ok_or (progress_in body) BadRequest
  Ok (event.Report boot token progress)

abbrev pub answer_event : Option (List ℕ) → ℕ → ℕ → List ℕ → Result Event HttpFault
answer_event bearer order size after = do
  body ← body_of size after
  outcome ← ok_or (outcome_in body) BadRequest
  Ok (event.OrderAnswer bearer order outcome)

abbrev pub command_event : Option (List ℕ) → ℕ → List ℕ → Result Event HttpFault
command_event bearer size after = do
  body ← body_of size after
  said ← ok_or (command_in body) BadRequest
  Ok (event.Command bearer said.key said.command)

-- the event of a demand, with what follows the head
unfoldable pub event_of_demand : Demand → List ℕ → Result Event HttpFault
event_of_demand (demand.Script mac) after = Ok (event.Script mac)
event_of_demand (demand.Report boot token size) after = report_event boot token size after
event_of_demand (demand.Orders bearer) after = Ok (event.Orders bearer)
event_of_demand (demand.OrderAnswer bearer order size) after = answer_event bearer order size after
event_of_demand (demand.Machines bearer) after = Ok (event.Machines bearer)
event_of_demand (demand.OneMachine bearer machine) after = Ok (event.OneMachine bearer machine)
event_of_demand (demand.Command bearer size) after = command_event bearer size after

-- the event of a head's method, target and fields, with what follows the head
abbrev pub event_of_parts : List ℕ → List ℕ → List FieldPair → List ℕ → Result Event HttpFault
event_of_parts method target fields after = demand_of method target fields >>= (λ demand. event_of_demand demand after)
