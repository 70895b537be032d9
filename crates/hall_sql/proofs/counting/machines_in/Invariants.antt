use Rattle.sql_schema.specs.Words.{sum_by}
use Rattle.std.proofs.Common.{◌≡◌, ◌+◌, drop}
use Rattle.hall_sql.proofs.counting.machines_in.Given as goal

-- with the counts that are left it is the sum of all
abbrev pub invariant-counts : goal.invariant-counts
invariant-counts l =
    l.machines + sum_by (λ count. count.machines) (drop l.count-index l.counts) ≡ sum_by (λ count. count.machines) l.counts
