use Rattle.std.{proofs.Common.refl, specs.Prelude.string_bytes}
use Rattle.hall_events.{specs.Reply.order_data, proofs.ReplyLemmas.order_written}
use Rattle.hall_events.proofs.reply.Reply.orders.Goals as goal

pub loop-order-preserved : goal.loop-order-preserved
loop-order-preserved c =
    order_written c.args.orders.now c.loop-order.order-index c.order-item.result (string_bytes c.loop-order.text) (string_bytes c.push_order.new.text) c.loop-order.later
    (order_data c.order-item.result) _ c.loop-order-test.true c.order-item.is refl c.in_ok-push_order.ensures c.loop-order.invariant
