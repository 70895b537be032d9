use Rattle.std.proofs.{Common.{◌≡◌, List, [], ◌∷◌, ap, append-nil, arith, length, length-append, refl, subst, sym}, lemmas.Option.slice_get_within}
use Rattle.serve_sockets.{specs.{Gathering.{AreApart, AreBack, AreOut, OthersStay}, Service.connections_of, declared.gathering.Client.Client}, proofs.GivenLemmas.{all_back, back_free, back_more, last_split, none_back}}
use Rattle.serve_sockets.proofs.service.Service.put_all_back.Goals as goal

pub clients-init : goal.clients-init
clients-init g c = record { desk = refl; back = ([], sym (append-nil _), tt, none_back _); count = omega arith }

pub unreachable-requires : goal.unreachable-requires
unreachable-requires g c =
    omega (arith, c.in_default.ensures.cases.0, c.clients.clients.ok.0, c.clients.invariant.count, c.clients-test.true, c.len-index-end.ensures, c.args.clients.ok.0)

pub put_back-requires : goal.put_back-requires
put_back-requires g c =
    let inv = c.clients.invariant.back in
    let split = last_split _ _ _ inv.0 c.in-Some.client inv.1 c.in-Some.ensures.items in
    slice_get_within _ _ _
    (back_free (connections_of c.args.self.now) (connections_of c.clients.self) c.pop_back.new.self.items c.in-Some.client inv.0 (subst AreApart split c.requires.apart)
    (subst (AreOut (connections_of c.args.self.now)) split c.requires.out) inv.3)

pub clients-preserved : goal.clients-preserved
clients-preserved g c =
    let inv = c.clients.invariant.back in
    let rest = c.pop_back.new.self.items in
    let client = c.in-Some.client in
    let split = last_split _ _ _ inv.0 client inv.1 c.in-Some.ensures.items in
    let apart = subst AreApart split c.requires.apart in
    let out = subst (AreOut (connections_of c.args.self.now)) split c.requires.out in
    let low = slice_get_within _ _ _ (back_free (connections_of c.args.self.now) (connections_of c.clients.self) rest client inv.0 apart out inv.3) in
    let more = back_more _ _ _ rest client inv.0 apart out inv.2 inv.3 c.put_back.ensures.put low in
    record {
      desk = c.clients.invariant.desk;
      back = (client ∷ inv.0, split, more.0, more.1);
      count = omega (arith, c.clients.invariant.count, ap length c.in-Some.ensures.items, length-append rest (client ∷ []));
    }

pub returns-clause-back : goal.returns-clause-back
returns-clause-back g c =
    let inv = c.clients.invariant.back in
    let none : length c.clients.clients.items ≡ 0 =
    omega (arith, c.clients.invariant.count, c.clients.auto.index-end, c.clients-test.false, c.len-index-end.ensures, c.args.clients.ok.0) in
    subst (AreBack (connections_of c.clients.self)) (sym (all_back _ c.clients.clients.items inv.0 inv.1 none)) inv.2

pub returns-clause-others : goal.returns-clause-others
returns-clause-others g c =
    let inv = c.clients.invariant.back in
    let none : length c.clients.clients.items ≡ 0 =
    omega (arith, c.clients.invariant.count, c.clients.auto.index-end, c.clients-test.false, c.len-index-end.ensures, c.args.clients.ok.0) in
    subst (λ (xs : List Client). OthersStay xs (connections_of c.args.self.now) (connections_of c.clients.self)) (sym (all_back _ c.clients.clients.items inv.0 inv.1 none)) inv.3
