use Rattle.sql_schema.specs.{Words.{state, orders}, TableStatements.with_item}
use Rattle.sql_items.specs.ChildLaws.{puts_order}
use Rattle.sql_items.proofs.orders.put_order.Goals as goal

pub returns-clause-written : goal.returns-clause-written
returns-clause-written g c clean =
    c.put.ensures.written clean (λ rows. with_item orders rows c.args.order.now)
    (rw (c.number_value.ensures, c.number_value-2.ensures, c.small_value.ensures, c.small_value-2.ensures, c.get.ensures.number, c.get-2.ensures.number, c.number.ensures, c.number-2.ensures) (puts_order (state g.S.Store) c.args.order.now))
