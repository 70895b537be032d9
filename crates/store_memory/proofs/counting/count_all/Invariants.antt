use Rattle.std.proofs.Common.{◌≡◌, ◌+◌, ℕ, List, filter_map}
use Rattle.store_memory.specs.{Prelude.Status, Counted.{AreEntries, counted_in, many}, Table.rows_of}
use Rattle.store_memory.proofs.counting.count_all.Given as goal

-- what was counted so far, with what the rows that are left have, is what all have
abbrev pub invariant-machines : goal.invariant-machines
invariant-machines l =
    AreEntries l.counts
    × ((pool : List ℕ) (status : Status) → counted_in l.counts pool status + many pool status (filter_map (λ row. row) l.row-iterator) ≡ many pool status (rows_of l.machines))
