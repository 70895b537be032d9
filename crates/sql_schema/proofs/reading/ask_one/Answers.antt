use Rattle.sql_schema.specs.{Words.option_to_list, AskingLaws.{reads, only_item}}
use Rattle.std.proofs.Common.{◌∙◌}
use Rattle.sql_schema.proofs.reading.ask_one.Goals as goal

pub returns-clause-asked : goal.returns-clause-asked
returns-clause-asked g c clean right it =
    reads _ c.ask_first.result (c.ask_first.ensures.asked clean (λ h. option_to_list (right h)) it) (λ h found is. is ∙ only_item (right h))
