use Rattle.hallboot_tasks.proofs.ServedLemmas.{reads_then}
use Rattle.hallboot_tasks.proofs.sums.sum_of.Goals as goal

pub returns : goal.returns
returns g c = reads_then g.S.HallStore _ _ _ _ _ _ _ c.machine_count.ensures c.numbers.ensures
