use Rattle.sql_schema.specs.Words.{at, asked_then, asked_failed}
use Rattle.std.proofs.Common.{◌≡◌, Ok, option_map, ap, rules, ◌∙◌}
use Rattle.sql_items.{specs.declared.wipes.Erasing.Erasing, proofs.WipeLemmas.{finds_wipe, found_erase}}
use Rattle.sql_items.proofs.wipes.find_wipe.Goals as goal

pub returns-in-Ok-clause-asked : goal.returns-in-Ok-clause-asked
returns-in-Ok-clause-asked g c clean =
    let asked = rw (c.number_value.ensures, c.get.ensures.number) at (c.in-Ok.ensures.asked clean) in
    let kind : c.map.result ≡ option_map (λ (e : Erasing). e.erase) c.in-Ok.found = search rules in
    asked_then _ _ _ _ c.in-Ok.found (Ok c.map.result) (asked _ (finds_wipe c.args.id))
    (λ h is. kind ∙ ap (option_map (λ (e : Erasing). e.erase)) is ∙ found_erase (at h.machines c.args.id))

pub returns-in-Err-clause-asked : goal.returns-in-Err-clause-asked
returns-in-Err-clause-asked g c clean =
    let asked = rw (c.number_value.ensures, c.get.ensures.number) at (c.in-Err.ensures.asked clean) in
    asked_failed _ _ _ _ c.in-Err.error (asked _ (finds_wipe c.args.id))
