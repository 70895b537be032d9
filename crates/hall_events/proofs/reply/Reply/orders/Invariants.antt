use Rattle.std.{proofs.Common.{◌≡◌, ◌++◌, map, drop}, specs.Prelude.{codes, string_bytes}}
use Rattle.serde_json.specs.{View.items_of, Written.{compact_text, items_text}}
use Rattle.hall_events.specs.{Object.list_object, Reply.order_data}
use Rattle.hall_events.proofs.reply.Reply.orders.Given as goal

-- the text so far, with those of the orders that are left, is the whole
abbrev pub invariant-loop-order : goal.invariant-loop-order
invariant-loop-order l = string_bytes l.text ++ (items_text l.later (items_of (map order_data (drop l.order-index l.orders))) ++ codes "}") ≡ compact_text (list_object (codes "orders") (map order_data l.orders))
