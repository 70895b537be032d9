use Rattle.std.proofs.Common.{[], ◌∷◌}
use Rattle.desk_adoption.{specs.Next.IsAdoptionItem, proofs.AdoptionLemmas.{kept_on, more_on}}
use Rattle.desk_adoption.proofs.steps.adopt_one.Goals as goal

pub loop-init : goal.loop-init
loop-init g c = record {
  clean = λ clean. clean;
  history = λ clean.
      kept_on g.S.HallStore (IsAdoptionItem c.args.place.now c.args.adopters.now (c.args.server.now ∷ []) c.args.moment) c.args.store c.args.store (λ h held. held);
}

pub returns-in-Some-clause-history : goal.returns-in-Some-clause-history
returns-in-Some-clause-history g c = λ clean.
    more_on g.S.HallStore (IsAdoptionItem c.args.place.now c.args.adopters.now (c.args.server.now ∷ []) c.args.moment)
    c.args.store c.loop.store c.step-end.result.1 (c.loop.invariant.history (c.step-end.ensures.clean clean)) (c.step-end.ensures.history clean)

pub loop-preserved : goal.loop-preserved
loop-preserved g c = record {
  clean = λ clean. c.loop.invariant.clean (c.step-end.ensures.clean clean);
  history = λ clean.
      more_on g.S.HallStore (IsAdoptionItem c.args.place.now c.args.adopters.now (c.args.server.now ∷ []) c.args.moment)
      c.args.store c.loop.store c.step-end.result.1 (c.loop.invariant.history (c.step-end.ensures.clean clean)) (c.step-end.ensures.history clean);
}
