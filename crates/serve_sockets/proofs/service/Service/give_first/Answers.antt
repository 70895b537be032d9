use Rattle.std.proofs.{Common.{◌≡◌, ◌∙◌, List, [], ◌∷◌, ◌++◌, ap, append_assoc, append-nil, arith, length, length-append, refl, subst, sym}, lemmas.Option.slice_get_within}
use Rattle.std.specs.Vec.Iter.{into_iter_items}
use Rattle.serve_sockets.{specs.{Gathering.{AreApart, AreOut, OthersStay}, Service.connections_of, declared.gathering.Client.Client}, proofs.GivenLemmas.{apart_rest, first_split, given_all, given_free, given_more, held_length, none_left, rest_out}}
use Rattle.serve_sockets.proofs.service.Service.give_first.Goals as goal

pub answers-init : goal.answers-init
answers-init g c = record {
  desk = refl;
  rest = c.into_iter-answer-iterator.ensures.into_iter_gives.0;
  left = search;
  done = ([], refl, tt, λ k all. refl);
}

pub unreachable-requires : goal.unreachable-requires
unreachable-requires g c =
    let at = c.answers in
    let done = at.invariant.done in
    let steps : into_iter_items at.answer-iterator ≡ c.in-Some.answer ∷ into_iter_items c.next.new.self = c.in-Some.ensures.steps.0 in
    omega (
      arith,
      c.in_default.ensures.cases.0,
      at.clients.ok.0,
      c.requires.few,
      held_length (connections_of at.self) done.0 at.yielded done.2,
      ap length done.1,
      length-append done.0 at.clients.items,
      ap length at.invariant.rest,
      length-append at.yielded (into_iter_items at.answer-iterator),
      ap length steps,
    )

pub answer_client-requires : goal.answer_client-requires
answer_client-requires g c =
    let done = c.answers.invariant.done in
    let client = c.in-Some-pop_front.client in
    let whole = done.1 ∙ ap (λ (ys : List Client). done.0 ++ ys) c.in-Some-pop_front.ensures.items in
    slice_get_within _ _ _
    (given_free (connections_of c.args.self.now) (connections_of c.answers.self) done.0 client c.pop_front.new.self.items (subst AreApart whole c.requires.apart)
    (subst (AreOut (connections_of c.args.self.now)) whole c.requires.out) done.3)

pub answers-preserved : goal.answers-preserved
answers-preserved g c =
    let at = c.answers in
    let done = at.invariant.done in
    let answer = c.in-Some.answer in
    let steps : into_iter_items at.answer-iterator ≡ answer ∷ into_iter_items c.next.new.self = c.in-Some.ensures.steps.0 in
    let client = c.in-Some-pop_front.client in
    let rest = c.pop_front.new.self.items in
    let whole = done.1 ∙ ap (λ (ys : List Client). done.0 ++ ys) c.in-Some-pop_front.ensures.items in
    let apart = subst AreApart whole c.requires.apart in
    let out = subst (AreOut (connections_of c.args.self.now)) whole c.requires.out in
    let low = slice_get_within _ _ _ (given_free (connections_of c.args.self.now) (connections_of at.self) done.0 client rest apart out done.3) in
    let more = given_more _ _ _ done.0 client rest at.yielded answer apart done.2 done.3 c.answer_client.ensures.given low in
    record {
      desk = c.answer_client.ensures.desk ∙ at.invariant.desk;
      rest = append_assoc at.yielded (answer ∷ []) _ ∙ rw (← steps) at.invariant.rest;
      left = let was = at.invariant.left in let gone = c.in-Some.ensures.steps.1 in let short = ap length steps in omega arith;
      done = (done.0 ++ client ∷ [], first_split _ done.0 _ _ client done.1 c.in-Some-pop_front.ensures.items, more.0, more.1);
    }

pub put_all_back-requires-clause-out : goal.put_all_back-requires-clause-out
put_all_back-requires-clause-out g c =
    let done = c.answers.invariant.done in
    rest_out (connections_of c.args.self.now) (connections_of c.answers.self) done.0 c.answers.clients.items (subst AreApart done.1 c.requires.apart)
    (subst (AreOut (connections_of c.args.self.now)) done.1 c.requires.out) done.3

pub put_all_back-requires-clause-apart : goal.put_all_back-requires-clause-apart
put_all_back-requires-clause-apart g c =
    let done = c.answers.invariant.done in
    apart_rest done.0 c.answers.clients.items (subst AreApart done.1 c.requires.apart)

pub returns-clause-given : goal.returns-clause-given
returns-clause-given g c =
    let at = c.answers in
    let done = at.invariant.done in
    let empty : into_iter_items at.answer-iterator ≡ [] = none_left _ (sym at.invariant.left ∙ c.in-None.ensures.steps.0) in
    let all = sym (append-nil at.yielded) ∙ rw empty at at.invariant.rest in
    let given =
    given_all (connections_of c.args.self.now) (connections_of at.self) _ done.0 at.clients.items at.yielded (subst AreApart done.1 c.requires.apart) done.2 done.3
    c.put_all_back.ensures.back c.put_all_back.ensures.others in
    rw (done.1, ← all) given.0

pub returns-clause-others : goal.returns-clause-others
returns-clause-others g c =
    let at = c.answers in
    let done = at.invariant.done in
    let given =
    given_all (connections_of c.args.self.now) (connections_of at.self) _ done.0 at.clients.items at.yielded (subst AreApart done.1 c.requires.apart) done.2 done.3
    c.put_all_back.ensures.back c.put_all_back.ensures.others in
    subst (λ (xs : List Client). OthersStay xs (connections_of c.args.self.now) (connections_of c.put_all_back.new.self)) (sym done.1) given.1
