use Rattle.std.{proofs.Common.{◌≡◌, ◌++◌, string_bytes, take}, specs.List.flat_map}
use Rattle.hall_report.specs.Lines.{order_line}
use Rattle.hall_report.proofs.orders.push_orders.Given as goal

-- the orders so far stand in the text
abbrev pub invariant-loop-order : goal.invariant-loop-order
invariant-loop-order l = string_bytes l.text ≡ string_bytes l.initial.text ++ flat_map order_line (take l.order-index l.orders)
