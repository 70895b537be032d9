use Rattle.sql_schema.specs.Words.{AllByRecursion}
use Rattle.std.proofs.Common.{◌≤◌, ℕ, drop}
use Rattle.hall_sql.specs.Expiring.{PutsNoEarlier}
use Rattle.hall_sql.proofs.expiring.earliest_after.Given as goal

-- a moment that is no later is right for all writes, where it is for those that are left
abbrev pub invariant-writes : goal.invariant-writes
invariant-writes l =
    (l.known ≤ l.fn.earliest) × ((moment : ℕ) → moment ≤ l.known → AllByRecursion (PutsNoEarlier moment) (drop l.write-index l.writes) → AllByRecursion (PutsNoEarlier moment) l.writes)
