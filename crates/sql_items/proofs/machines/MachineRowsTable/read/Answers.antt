use Rattle.std.proofs.Common.{◌≡◌, length, refl, ap, ◌∙◌, arith}
use Rattle.sql_items.specs.MachineRowLaws.{all_columns, columns_from, same_cells}
use Rattle.sql_items.proofs.machines.MachineRowsTable.read.Goals as goal

pub returns : goal.returns
returns c =
    let many : length c.args.row.now ≡ 15 = omega (arith, c.column_count.ensures, c.if-column_count-ne15.false) in
    all_columns c.args.row.now ∙ ap (λ n. columns_from 0 n c.args.row.now) many
    ∙ same_cells c.in_ok-number_in.ensures (same_cells c.in_ok-kind_in.ensures (same_cells c.in_ok-optional_uuid_in.ensures (same_cells c.in_ok-name_in.ensures
    (same_cells c.in_ok-kind_in-2.ensures (same_cells c.in_ok-optional_name_in.ensures (same_cells c.in_ok-optional_name_in-2.ensures (same_cells c.in_ok-truth_in.ensures
    (same_cells c.in_ok-optional_status_in.ensures (same_cells c.in_ok-truth_in-2.ensures (same_cells c.in_ok-version_in.ensures (same_cells c.in_ok-deadline_in.ensures
    (same_cells c.in_ok-optional_number_in.ensures (same_cells c.in_ok-boots_in.ensures (same_cells c.in_ok-optional_number_in-2.ensures refl))))))))))))))
