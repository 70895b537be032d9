use Rattle.sql_schema.specs.{Words.state, StepLaws.{gives, then}}
use Rattle.sql_items.specs.ChildLaws.{removes_boots, removes_interfaces, removes_orders}
use Rattle.hall_sql.proofs.RemovalLemmas.{has_no_child}
use Rattle.hall_sql.proofs.removal.remove_rows.Goals as goal

pub returns-clause-written : goal.returns-clause-written
returns-clause-written g c clean =
    let id = c.args.id in
    let no_interfaces = rw (c.number_value.ensures, c.get.ensures.number) at c.in_ok-write.ensures.written in
    let no_boots = rw (c.number_value-2.ensures, c.get-2.ensures.number) at c.in_ok-write-2.ensures.written in
    let no_orders = rw (c.number_value-3.ensures, c.get-3.ensures.number) at c.in_ok-write-3.ensures.written in
    gives _ c.remove_row.result
    (then (then (then (then no_interfaces c.write-2.ensures.survives no_boots) c.write-3.ensures.survives no_orders)
    c.put_wipe.ensures.survives c.in_ok-put_wipe.ensures.written)
    c.remove_row.ensures.survives c.remove_row.ensures.written clean)
    (λ done steps before rows held may.
    let first = steps.0.0.0.0 before rows _ (removes_interfaces (state g.S.Store) id before rows) held in
    let second = steps.0.0.0.1 before _ _ (removes_boots (state g.S.Store) id before _) first in
    let third = steps.0.0.1 before _ _ (removes_orders (state g.S.Store) id before _) second in
    let alone = steps.0.1 before _ third tt in
    steps.1 before _ alone (has_no_child _ before rows id alone))
