use Rattle.sql_schema.specs.{Words.{listed, asked_failed}, AskingLaws.{reads, both}}
use Rattle.std.proofs.Common.{refl, ap, ◌∙◌}
use Rattle.sql_items.{specs.{Joining.joined, Wipes.erasings}, proofs.{JoinLemmas.joins_all, FindingLemmas.{in_number_order, lists_rows, machines_stand}}}
use Rattle.sql_items.proofs.listing.list_machines.Goals as goal

pub returns-in-Ok-clause-asked : goal.returns-in-Ok-clause-asked
returns-in-Ok-clause-asked g c clean =
    reads _ c.with_wipes.result (both c.in-Ok.rows c.with_wipes.result (c.in-Ok.ensures.asked (c.with_wipes.ensures.clean clean) _ lists_rows) (c.with_wipes.ensures.asked clean))
    (λ h all said.
    said.2 ∙ ap (joined (erasings h) 0) said.1
    ∙ joins_all (erasings h) (listed h.machines) 0 (in_number_order h.machines (machines_stand _ h said.0.spelt)) refl)

pub returns-in-Err-clause-asked : goal.returns-in-Err-clause-asked
returns-in-Err-clause-asked g c clean = asked_failed _ _ _ _ c.in-Err.error (c.in-Err.ensures.asked clean _ lists_rows)
