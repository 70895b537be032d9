use Rattle.hall_report.proofs.RowLemmas.{more_rows}
use Rattle.hall_report.proofs.row.rows_of.Goals as goal

pub loop-column-preserved : goal.loop-column-preserved
loop-column-preserved c =
    more_rows c.args.later.now c.loop-column.column c.index-later-column.result c.in-Some.row c.loop-column.rows.items c.push_row.new.rows.items _
    c.loop-column-test.true c.index-later-column.is c.in-Some.ensures c.in_ok-push_row-in-Some.ensures c.loop-column.invariant
