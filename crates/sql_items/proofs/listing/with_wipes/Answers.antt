use Rattle.sql_schema.specs.Words.{if_ok, asked_then, asked_failed}
use Rattle.std.proofs.Common.{ap₂, ◌∙◌}
use Rattle.sql_items.specs.Joining.{joined}
use Rattle.sql_items.proofs.listing.with_wipes.Goals as goal

pub returns-in-Ok-clause-asked : goal.returns-in-Ok-clause-asked
returns-in-Ok-clause-asked g c clean =
    asked_then _ _ _ _ c.in-Ok.erasings c.joined.result (c.in-Ok.ensures.asked clean)
    (if_ok _ _ c.joined.result c.joined.ensures (λ all is h kinds. is ∙ ap₂ (λ es. joined es 0) (c.deref-in-Ok.ensures.value ∙ kinds) c.deref.ensures.value))

pub returns-in-Err-clause-asked : goal.returns-in-Err-clause-asked
returns-in-Err-clause-asked g c clean = asked_failed _ _ _ _ c.in-Err.error (c.in-Err.ensures.asked clean)
