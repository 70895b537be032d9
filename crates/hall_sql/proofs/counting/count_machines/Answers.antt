use Rattle.sql_schema.specs.Words.{sum_by, if_ok, asked_failed, asked_then}
use Rattle.std.proofs.Common.{◌∙◌, ap}
use Rattle.hall_sql.proofs.CountLemmas.{counts_total}
use Rattle.hall_sql.proofs.counting.count_machines.Goals as goal

pub returns-in-Ok-clause-asked : goal.returns-in-Ok-clause-asked
returns-in-Ok-clause-asked g c clean =
    asked_then _ _ _ _ c.in-Ok.counts c.machines_in.result (c.in-Ok.ensures.asked clean)
    (if_ok _ _ c.machines_in.result c.machines_in.ensures (λ machines is h are. is ∙ (ap (λ counts. sum_by (λ count. count.machines) counts) c.deref.ensures.value ∙ counts_total h c.in-Ok.counts.items are)))

pub returns-in-Err-clause-asked : goal.returns-in-Err-clause-asked
returns-in-Err-clause-asked g c clean = asked_failed _ _ _ _ c.in-Err.error (c.in-Err.ensures.asked clean)
