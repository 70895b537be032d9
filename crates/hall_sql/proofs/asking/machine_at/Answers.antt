use Rattle.sql_schema.specs.Words.{Interface, at, asked_failed, asked_then}
use Rattle.std.proofs.Common.{◌≡◌, Ok, ap, ◌∙◌, option_map, rules}
use Rattle.sql_items.specs.ChildLaws.{finds_interface}
use Rattle.hall_sql.proofs.asking.machine_at.Goals as goal

pub returns-in-Ok-clause-asked : goal.returns-in-Ok-clause-asked
returns-in-Ok-clause-asked g c clean =
    let machine : c.map.result ≡ option_map (λ (i : Interface). i.machine) c.in-Ok.found = search rules in
    asked_then _ _ _ _ c.in-Ok.found (Ok c.map.result) (c.in-Ok.ensures.asked clean (λ h. at h.interfaces c.args.mac) (rw (c.octets_value.ensures, c.octets-octets.ensures.octets) (finds_interface c.args.mac))) (λ h is. machine ∙ ap (option_map (λ (i : Interface). i.machine)) is)

pub returns-in-Err-clause-asked : goal.returns-in-Err-clause-asked
returns-in-Err-clause-asked g c clean = asked_failed _ _ _ _ c.in-Err.error (c.in-Err.ensures.asked clean (λ h. at h.interfaces c.args.mac) (rw (c.octets_value.ensures, c.octets-octets.ensures.octets) (finds_interface c.args.mac)))
