use Rattle.sql_schema.specs.{Words.asked_failed, AskingLaws.{reads, both}}
use Rattle.std.proofs.Common.{ap, ◌∙◌}
use Rattle.sql_items.specs.{MachineRows.found_whole, MachineRowLaws.whole_again}
use Rattle.sql_items.proofs.finding.ask_machine.Goals as goal

pub returns-in-Ok-clause-asked : goal.returns-in-Ok-clause-asked
returns-in-Ok-clause-asked g c clean right it =
    reads _ c.with_wipe.result (both c.in-Ok.found c.with_wipe.result (c.in-Ok.ensures.asked (c.with_wipe.ensures.clean clean) _ it.asks) (c.with_wipe.ensures.asked clean))
    (λ h machine said. said.2 ∙ ap (found_whole h) said.1 ∙ whole_again h (right h) (it.recorded _ h said.0.spelt))

pub returns-in-Err-clause-asked : goal.returns-in-Err-clause-asked
returns-in-Err-clause-asked g c clean right it = asked_failed _ _ _ _ c.in-Err.error (c.in-Err.ensures.asked clean _ it.asks)
