use Rattle.desk_adoption.{specs.Next.IsAdoptionItem, proofs.AdoptionLemmas.{all_on, if_ok_then, kept_on, more_on}}
use Rattle.desk_adoption.proofs.adopting.adopt.Goals as goal

pub returns-in-Ok-Err-clause-history : goal.returns-in-Ok-Err-clause-history
returns-in-Ok-Err-clause-history g c = λ clean.
    kept_on g.S.HallStore (IsAdoptionItem c.args.place.now c.args.adopters.now c.args.servers.now c.args.moment)
    c.args.store c.owner_of.new.store (c.owner_of.ensures clean).1

pub returns-in-Err-clause-history : goal.returns-in-Err-clause-history
returns-in-Err-clause-history g c = λ clean.
    kept_on g.S.HallStore (IsAdoptionItem c.args.place.now c.args.adopters.now c.args.servers.now c.args.moment)
    c.args.store c.owner_of.new.store (c.owner_of.ensures clean).1

pub returns-in-Err-each-clause-history : goal.returns-in-Err-each-clause-history
returns-in-Err-each-clause-history g c = λ clean.
    let Is = IsAdoptionItem c.args.place.now c.args.adopters.now c.args.servers.now c.args.moment in
    more_on g.S.HallStore Is c.args.store c.owner_of.new.store c.adopt_each-each.result.1
    (kept_on g.S.HallStore Is c.args.store c.owner_of.new.store (c.owner_of.ensures (c.adopt_each-each.ensures.clean clean)).1)
    (c.adopt_each-each.ensures.history clean)

pub returns-clause-history : goal.returns-clause-history
returns-clause-history g c = λ clean.
    let Is = IsAdoptionItem c.args.place.now c.args.adopters.now c.args.servers.now c.args.moment in
    let last = c.end_of-end.ensures.keeps clean in
    more_on g.S.HallStore Is c.args.store c.adopt_each-each.result.1 c.end_of-end.new.store
    (more_on g.S.HallStore Is c.args.store c.owner_of.new.store c.adopt_each-each.result.1
    (kept_on g.S.HallStore Is c.args.store c.owner_of.new.store (c.owner_of.ensures (c.adopt_each-each.ensures.clean last.0)).1)
    (c.adopt_each-each.ensures.history last.0))
    (kept_on g.S.HallStore Is c.adopt_each-each.result.1 c.end_of-end.new.store last.1)

pub returns-clause-adopted : goal.returns-clause-adopted
returns-clause-adopted g c = λ clean.
    let Is = IsAdoptionItem c.args.place.now c.args.adopters.now c.args.servers.now c.args.moment in
    let last = c.end_of-end.ensures.keeps clean in
    if_ok_then _ _ _ c.end_of-end.result
    (all_on g.S.HallStore Is c.args.adopters.now.owner c.args.servers.now c.args.store c.adopt_each-each.result.1 c.end_of-end.new.store
    (more_on g.S.HallStore Is c.args.store c.owner_of.new.store c.adopt_each-each.result.1
    (kept_on g.S.HallStore Is c.args.store c.owner_of.new.store (c.owner_of.ensures (c.adopt_each-each.ensures.clean last.0)).1)
    (c.adopt_each-each.ensures.history last.0)) last.1)
    (c.end_of-end.ensures.are clean)
