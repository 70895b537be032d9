use Rattle.sql_schema.specs.{Words.{list_any, is_named, listed, asked_failed, asked_then}, AskingLaws.{reads, both}}
use Rattle.std.proofs.Common.{true, Ok, ap, sym, ◌||◌, ◌∙◌}
use Rattle.hall_sql.proofs.asking.is_image_used.Goals as goal

pub returns-in-Ok-true-clause-asked : goal.returns-in-Ok-true-clause-asked
returns-in-Ok-true-clause-asked g c clean =
    asked_then _ _ _ _ c.in-Ok-true.field-0 (Ok true) (c.in-Ok-true.ensures.asked clean)
    (λ h live. ap (λ b. b || list_any (λ m. is_named m.image c.args.name.now) (listed h.machines)) (sym c.in-Ok-true.field-0-test ∙ live))

pub returns-in-Ok-false-clause-asked : goal.returns-in-Ok-false-clause-asked
returns-in-Ok-false-clause-asked g c clean =
    reads _ c.has_machine_with_image.result (both c.in-Ok-false.field-0 c.has_machine_with_image.result (c.in-Ok-false.ensures.asked (c.has_machine_with_image.ensures.clean clean)) (c.has_machine_with_image.ensures.asked clean))
    (λ h used it. it.2 ∙ ap (λ b. b || list_any (λ m. is_named m.image c.args.name.now) (listed h.machines)) (sym c.in-Ok-false.field-0-test ∙ it.1))

pub returns-in-Err-clause-asked : goal.returns-in-Err-clause-asked
returns-in-Err-clause-asked g c clean = asked_failed _ _ _ _ c.in-Err.error (c.in-Err.ensures.asked clean)
