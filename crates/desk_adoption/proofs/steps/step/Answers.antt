use Rattle.std.proofs.Common.{[], ◌∷◌, subst}
use Rattle.desk_adoption.{specs.Next.{IsAdoptionItem, IsNextOf}, proofs.AdoptionLemmas.{event_on, kept_on}}
use Rattle.desk_adoption.proofs.steps.step.Goals as goal

pub returns-in-Ok-Event-clause-history : goal.returns-in-Ok-Event-clause-history
returns-in-Ok-Event-clause-history g c =
    event_on g.S.HallStore c.args.place.now c.args.adopters.now c.args.server.now c.args.moment c.args.server.now.token c.in-Ok-Event.event
    (subst (IsNextOf c.args.adopters.now c.args.server.now) c.in-Ok-Event.field-0-is c.in-Ok-Event.ensures.next) c.args.store c.found_next.new.store c.carried-reply.result.1 c.found_next.ensures.keeps
    c.carried-reply.ensures.clean c.carried-reply.ensures.history

pub returns-in-Ok : goal.returns-in-Ok
returns-in-Ok g c = record {
  clean = λ clean. (c.found_next.ensures.keeps clean).0;
  history = λ clean.
      kept_on g.S.HallStore (IsAdoptionItem c.args.place.now c.args.adopters.now (c.args.server.now ∷ []) c.args.moment)
      c.args.store c.found_next.new.store (c.found_next.ensures.keeps clean).1;
}

pub returns-in-Err-clause-history : goal.returns-in-Err-clause-history
returns-in-Err-clause-history g c = λ clean.
    kept_on g.S.HallStore (IsAdoptionItem c.args.place.now c.args.adopters.now (c.args.server.now ∷ []) c.args.moment)
    c.args.store c.found_next.new.store (c.found_next.ensures.keeps clean).1
