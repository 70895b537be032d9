use Rattle.sql_schema.specs.Words.{listed, is_named, asked_then, asked_failed}
use Rattle.std.proofs.Common.{Ok, ap, ◌∙◌, is_some}
use Rattle.sql_items.proofs.FindingLemmas.{finds_image, some_shown}
use Rattle.sql_items.proofs.finding.has_machine_with_image.Goals as goal

pub returns-in-Ok-clause-asked : goal.returns-in-Ok-clause-asked
returns-in-Ok-clause-asked g c clean =
    let asked = rw c.name_value.ensures at (c.in-Ok.ensures.asked clean) in
    asked_then _ _ _ _ c.in-Ok.found (Ok c.is_some.result) (asked _ (finds_image c.args.name.now))
    (λ h is. c.is_some.ensures ∙ ap is_some is ∙ some_shown (λ m. is_named m.image c.args.name.now) (listed h.machines))

pub returns-in-Err-clause-asked : goal.returns-in-Err-clause-asked
returns-in-Err-clause-asked g c clean =
    let asked = rw c.name_value.ensures at (c.in-Err.ensures.asked clean) in
    asked_failed _ _ _ _ c.in-Err.error (asked _ (finds_image c.args.name.now))
