-- What a request asks for, as far as its head says it.
use Rattle.std.specs.Prelude.{ℕ, List, Result, Ok, Err, ok_or, bytes_eq, if◌then◌else◌}
use Rattle.hall_http.specs.{Prelude.{number_of_text, octets_of_text}, declared.{demand.Demand.Demand, fault.HttpFault.{HttpFault, TheVariants.{BadRequest, NoRoute, WrongMethod}}, resource.Resource.{Resource, TheVariants.{Script, Report, Orders, Order, Machines, Machine, Commands}}}, Answer.◌>>=◌, Fields.{FieldPair, body_length, bearer}, Resource.{resource_of, method_of}, Target.{segment, address_of}}
use Rattle.hall_http.specs.declared.demand.Demand.TheVariants as demand

-- the second segment of /ipxe/{mac}, /orders/{number} and /machines/{id}, and those of /report/{number}/{token}
abbrev pub address_in : List ℕ → Result (List ℕ) HttpFault
address_in target = ok_or (address_of (segment 2 target)) BadRequest

abbrev pub number_in : List ℕ → Result ℕ HttpFault
number_in target = ok_or (number_of_text (segment 2 target)) BadRequest

abbrev pub token_in : List ℕ → Result (List ℕ) HttpFault
token_in target = ok_or (octets_of_text 16 (segment 3 target)) BadRequest

abbrev pub script_demand : List ℕ → Result Demand HttpFault
script_demand target = do
  mac ← address_in target
  Ok (demand.Script mac)

abbrev pub report_demand : List ℕ → List FieldPair → Result Demand HttpFault
report_demand target fields = do
  boot ← number_in target
  token ← token_in target
  size ← body_length fields
  Ok (demand.Report boot token size)

abbrev pub order_demand : List ℕ → List FieldPair → Result Demand HttpFault
order_demand target fields = do
  order ← number_in target
  size ← body_length fields
  Ok (demand.OrderAnswer (bearer fields) order size)

abbrev pub machine_demand : List ℕ → List FieldPair → Result Demand HttpFault
machine_demand target fields = do
  machine ← number_in target
  Ok (demand.OneMachine (bearer fields) machine)

abbrev pub command_demand : List FieldPair → Result Demand HttpFault
command_demand fields = do
  size ← body_length fields
  Ok (demand.Command (bearer fields) size)

-- what is asked of a resource by its method
unfoldable pub demand_for : Resource → List ℕ → List FieldPair → Result Demand HttpFault
demand_for Script target fields = script_demand target
demand_for Report target fields = report_demand target fields
demand_for Orders target fields = Ok (demand.Orders (bearer fields))
demand_for Order target fields = order_demand target fields
demand_for Machines target fields = Ok (demand.Machines (bearer fields))
demand_for Machine target fields = machine_demand target fields
demand_for Commands target fields = command_demand fields

abbrev pub with_method : List ℕ → Resource → Result Resource HttpFault
with_method method resource = if bytes_eq method (method_of resource) then Ok resource else Err WrongMethod

-- the route, then the method, then what the target and the fields say
unfoldable pub demand_of : List ℕ → List ℕ → List FieldPair → Result Demand HttpFault
demand_of method target fields = do
  resource ← ok_or (resource_of target) NoRoute
  allowed ← with_method method resource
  demand_for allowed target fields

-- how many octets of what follows the head are the body
abbrev pub body_size : Demand → ℕ
body_size (demand.Report boot token size) = size
body_size (demand.OrderAnswer bearer order size) = size
body_size (demand.Command bearer size) = size
body_size other = 0
