use Rattle.std.{specs.List.All, proofs.{Common.{subst}, lemmas.List.{Elements.All-more, take_all}}}
use Rattle.desk_adoption.specs.Adoption.{IsAdopted}
use Rattle.desk_adoption.proofs.checking.are_adopted.Goals as goal

pub loop-server-preserved : goal.loop-server-preserved
loop-server-preserved g c =
    let before = c.loop-server.invariant in
    let kept = c.is_adopted.ensures.keeps in
    record {
      clean = λ clean. before.clean (kept clean).0;
      same = λ clean h held. (kept clean).1 h (before.same (kept clean).0 h held);
      are = λ clean h held.
          All-more (IsAdopted c.args.owner.now h) c.args.servers.now c.loop-server.server-index c.server-item.result c.loop-server-test.true
          (before.are (kept clean).0 h held)
          (subst (IsAdopted c.args.owner.now h) c.server-item.is (c.in_ok-is_adopted.ensures.is clean c.if-not-branch.false h (before.same (kept clean).0 h held)));
    }

pub returns-clause-are : goal.returns-clause-are
returns-clause-are g c = λ clean yes h held.
    subst (All (IsAdopted c.args.owner.now h)) (take_all c.loop-server.server-index c.args.servers.now c.loop-server-test.false)
    (c.loop-server.invariant.are clean h held)
