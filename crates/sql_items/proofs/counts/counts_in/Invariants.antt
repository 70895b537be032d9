use Rattle.std.proofs.Common.{◌≡◌, take, map}
use Rattle.sql_items.specs.Counts.{count_values}
use Rattle.sql_items.proofs.counts.counts_in.Given as goal

-- the counts are those of the rows so far
abbrev pub invariant-loop-row : goal.invariant-loop-row
invariant-loop-row l = take l.row-index l.rows ≡ map count_values l.counts.items
