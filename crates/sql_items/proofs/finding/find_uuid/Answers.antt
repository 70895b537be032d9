use Rattle.std.proofs.Common.{◌∙◌}
use Rattle.sql_schema.specs.AskingLaws.{reads}
use Rattle.sql_items.proofs.FindingLemmas.{finds_uuid, first_with_uuid}
use Rattle.sql_items.proofs.finding.find_uuid.Goals as goal

pub returns-clause-asked : goal.returns-clause-asked
returns-clause-asked g c clean =
    let asked = rw (c.octets_value.ensures, c.octets-octets.ensures.octets) at (c.ask_first.ensures.asked clean) in
    reads _ c.ask_first.result (asked _ (finds_uuid c.args.uuid)) (λ h found is. is ∙ first_with_uuid h c.args.uuid)
