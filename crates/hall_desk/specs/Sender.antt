-- Who sends a request, and who may.
use Rattle.std.specs.Prelude.{Bool, Option, None, Some, if◌then◌else◌}
use Rattle.hall_desk.specs.{Prelude.{Role, Operator, may_answer, may_see_machines, may_see_orders}, declared.requests.Right.Right}

-- the operator, if there is one who is enabled
abbrev pub if_enabled : Option Operator → Option Operator
if_enabled None = None
if_enabled (Some operator) = if operator.enabled then Some operator else None

-- whether a role has a right
abbrev pub may : Right → Role → Bool
may Right.SeeOrders = may_see_orders
may Right.AnswerOrders = may_answer
may Right.SeeMachines = may_see_machines
