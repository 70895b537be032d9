use Rattle.std.proofs.Common.{◌∙◌}
use Rattle.desk_adoption.{specs.{Prelude.{site_of, store_of}, Adoption.IsCarriedItem}, proofs.AdoptionLemmas.{carried_on, kept_on, same_place}}
use Rattle.desk_adoption.proofs.carrying.carried.Goals as goal

pub returns-in_default-clause-history : goal.returns-in_default-clause-history
returns-in_default-clause-history g c = λ clean.
    kept_on g.S.HallStore (IsCarriedItem c.args.place.now c.args.event.now c.args.moment c.args.fresh) c.args.store c.args.store (λ h held. held)

pub returns-clause-history : goal.returns-clause-history
returns-clause-history g c =
    carried_on g.S.HallStore c.args.place.now (site_of c.new-desk.result)
    (c.new-desk.ensures.site ∙ c.in-Ok.ensures.place ∙ same_place c.args.place.now c.server.result c.next.result c.host.result.now c.server.ensures c.next.ensures c.host.ensures.text)
    c.args.event.now c.args.moment c.args.fresh c.args.store (store_of c.new-desk.result) (store_of c.step-reply.new.self) c.into_store.result
    c.new-desk.ensures.store c.into_store.ensures c.step-reply.result c.step-reply.ensures.history (λ clean. (c.step-reply.ensures.step clean).1.same)
