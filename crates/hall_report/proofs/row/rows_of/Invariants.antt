use Rattle.std.proofs.Common.{◌≡◌, ◌++◌, ◌+◌, drop, map}
use Rattle.hall_report.specs.{Prelude.fields_of, Import.{rows_from, with_ok}}
use Rattle.hall_report.proofs.row.rows_of.Given as goal

-- the rows so far are those before the later ones
abbrev pub invariant-loop-column : goal.invariant-loop-column
invariant-loop-column l =
    with_ok (λ more. l.rows.items ++ more) (rows_from (l.column + 1) (map fields_of (drop l.column l.later))) ≡ rows_from 1 (map fields_of l.later)
