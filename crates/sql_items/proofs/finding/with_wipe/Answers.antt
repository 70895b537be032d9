use Rattle.sql_schema.specs.Words.{asked_then, asked_failed}
use Rattle.std.proofs.Common.{Some, Ok, sym, ap, ◌∙◌}
use Rattle.sql_items.specs.MachineRows.{found_whole}
use Rattle.sql_items.proofs.finding.with_wipe.Goals as goal

pub returns-in-Ok-clause-asked : goal.returns-in-Ok-clause-asked
returns-in-Ok-clause-asked g c clean =
    asked_then _ _ _ _ c.in-Ok.erase (Ok (Some (record c.in-Some.machine { erase = c.in-Ok.erase }))) (c.in-Ok.ensures.asked clean)
    (λ h is. ap (λ erase. Some (record c.in-Some.machine { erase = erase })) is ∙ sym (ap (found_whole h) c.in-Some.is))

pub returns-in-Err-clause-asked : goal.returns-in-Err-clause-asked
returns-in-Err-clause-asked g c clean = asked_failed _ _ _ _ c.in-Err.error (c.in-Err.ensures.asked clean)
