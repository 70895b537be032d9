-- Which order a machine waits for in a status.
use Rattle.hall_types.specs.declared.{status.Status.{Status, TheVariants.{New, FailedTesting, Allocated, Releasing, FailedDiskErasing}}, kinds.OrderKind.{OrderKind, TheVariants.{Cycle, Off}}}

-- the kind of the order, if there is one
unfoldable pub order_kind : Status → OrderKind
order_kind New = Off
order_kind FailedTesting = Off
order_kind Allocated = Off
order_kind Releasing = Off
order_kind FailedDiskErasing = Off
order_kind other = Cycle
