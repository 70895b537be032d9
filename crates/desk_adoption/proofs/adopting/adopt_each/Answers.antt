use Rattle.desk_adoption.{specs.Next.IsAdoptionItem, proofs.AdoptionLemmas.{each_on, kept_on}}
use Rattle.desk_adoption.proofs.adopting.adopt_each.Goals as goal

pub loop-server-init : goal.loop-server-init
loop-server-init g c = record {
  clean = λ clean. clean;
  history = λ clean.
      kept_on g.S.HallStore (IsAdoptionItem c.args.place.now c.args.adopters.now c.args.servers.now c.args.moment) c.args.store c.args.store (λ h held. held);
}

pub returns-in-Err-clause-history : goal.returns-in-Err-clause-history
returns-in-Err-clause-history g c = λ clean.
    each_on g.S.HallStore c.args.place.now c.args.adopters.now c.args.servers.now c.args.moment c.loop-server.server-index c.server-item.result
    c.loop-server-test.true c.server-item.is c.args.store c.loop-server.store c.adopt_one-end.result.1
    (c.loop-server.invariant.history (c.adopt_one-end.ensures.clean clean)) (c.adopt_one-end.ensures.history clean)

pub loop-server-preserved : goal.loop-server-preserved
loop-server-preserved g c = record {
  clean = λ clean. c.loop-server.invariant.clean (c.adopt_one-end.ensures.clean clean);
  history = λ clean.
      each_on g.S.HallStore c.args.place.now c.args.adopters.now c.args.servers.now c.args.moment c.loop-server.server-index c.server-item.result
      c.loop-server-test.true c.server-item.is c.args.store c.loop-server.store c.adopt_one-end.result.1
      (c.loop-server.invariant.history (c.adopt_one-end.ensures.clean clean)) (c.adopt_one-end.ensures.history clean);
}
