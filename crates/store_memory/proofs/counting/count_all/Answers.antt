use Rattle.std.proofs.Common.{filter_map}
use Rattle.store_memory.{specs.Counted.counted_in, proofs.CountLemmas.counted_few}
use Rattle.store_memory.proofs.counting.count_all.Goals as goal

pub count_one-requires-clause-few : goal.count_one-requires-clause-few
count_one-requires-clause-few c = λ pool status.
    counted_few (counted_in c.machines.counts pool status) pool status (filter_map (λ row. row) c.machines.row-iterator) c.args.machines.now (c.machines.invariant.1 pool status) c.values-row-items.ensures.fits
