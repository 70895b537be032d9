use Rattle.sql_schema.specs.{Words.{at, if_ok}, StepLaws.{reads_on, refuses}}
use Rattle.hall_sql.proofs.MachineLemmas.{finds_machine}
use Rattle.hall_sql.proofs.groups.find_group.Goals as goal

pub returns-in-Ok-clause-found : goal.returns-in-Ok-clause-found
returns-in-Ok-clause-found g c clean =
    reads_on _ c.in-Ok.rows.items c.first_group.result
    (finds_machine _ _ c.args.id c.in-Ok.rows.items (rw (c.number_value.ensures, c.get.ensures.number) at (c.in-Ok.ensures.ok clean)))
    (λ found. if_ok _ _ c.first_group.result c.first_group.ensures (λ group is before h held. let it = found before h held in (is (at h.machines c.args.id) it.0, it.1)))

pub returns-in-Err-clause-found : goal.returns-in-Err-clause-found
returns-in-Err-clause-found g c clean = refuses _ _ _ _ _ c.in-Err.error (c.in-Err.ensures.err clean)
