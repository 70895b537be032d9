use Rattle.std.proofs.Common.{◌≡◌, filter_map}
use Rattle.store_memory.specs.{Prelude.soonest, Expiry.joined, Table.rows_of}
use Rattle.store_memory.proofs.expiring.soonest.Given as goal

-- what was found so far, joined with what the rows that are left have, is what all have
abbrev pub invariant-machines : goal.invariant-machines
invariant-machines l = joined l.best (soonest (filter_map (λ row. row) l.row-iterator)) ≡ soonest (rows_of l.machines)
