use Rattle.std.proofs.{Common.{rules, arith, ◌≡◌, ◌<◌, ◌∙◌, ℕ, List, [], refl, sym, length, take, subst}, lemmas.{Grind.common_steps, List.take_more}}
use Rattle.hall_desk.{specs.{Attempt.IsRan, Desk.{site_of, store_of}, Grouping.{AreAvailable, AreReadAs}, declared.{account.Account.Account, arrival.{Answer.Answer}}}, proofs.GroupLemmas.{given_more, ran_before, ran_then, read_more}}
use Rattle.hall_desk.proofs.desk.Desk.answer_first.Goals as goal

pub arrivals-init : goal.arrivals-init
arrivals-init g c = record {
  clean = λ clean. clean;
  site = refl;
  enlists = refl;
  base = λ clean base over. over;
  ran = λ clean h held sound.
      subst (λ (answers : List Answer). IsRan g.S.HallStore (store_of c.args.self.now) (site_of c.args.self.now) h [] answers) (sym c.in_ok-answers.ensures.items)
      (record { end = h; run = refl; held = held; sound = sound });
  read = subst (λ (accounts : List Account). AreReadAs [] accounts) (sym c.in_ok-accounts.ensures.items) tt;
  answered = subst (λ (answers : List Answer). AreAvailable answers) (sym c.in_ok-answers.ensures.items) tt;
  count = search rules;
  counted = search rules;
  room = search rules;
  rooms = search rules;
}

pub arrivals-preserved : goal.arrivals-preserved
arrivals-preserved g c =
    let here : c.arrivals.arrival-index < length c.args.arrivals.now = c.arrivals-test.true in
    let before = c.arrivals.invariant in
    let it = c.answer_with_account-answer.ensures.answered in
    record {
      clean = λ clean. before.clean (it.given clean).0;
      site = it.site ∙ before.site;
      enlists = it.enlists ∙ before.enlists;
      base = λ clean base over. (it.given clean).1.base base (before.base (it.given clean).0 base over);
      ran = λ clean h held sound.
          rw (take_more c.args.arrivals.now c.arrivals.arrival-index c.arrival-item.result here, sym c.arrival-item.is, c.push.ensures.items, c.if-is_err.ensures.negation)
          (ran_then g.S.HallStore (site_of c.args.self.now) (site_of c.arrivals.self) before.site h (store_of c.arrivals.self) (store_of c.answer_with_account-answer.new.self)
          (take c.arrivals.arrival-index c.args.arrivals.now) c.arrivals.answers.items (before.ran (it.given clean).0 h held sound)
          c.arrival-item.result c.answer_with_account-answer.result.0 (it.given clean).1);
      read =
          rw (take_more c.args.arrivals.now c.arrivals.arrival-index c.arrival-item.result here, sym c.arrival-item.is, c.push-else-is_err.ensures.items, c.if-is_err-2.ensures.negation)
          (read_more (take c.arrivals.arrival-index c.args.arrivals.now) c.arrivals.accounts.items c.arrival-item.result c.answer_with_account-answer.result.1 before.read
          c.answer_with_account-answer.ensures.came);
      answered =
          rw (c.push.ensures.items, c.if-is_err.ensures.negation)
          (given_more _ c.arrivals.answers.items c.answer_with_account-answer.result.0 before.answered (c.if-is_unavailable.ensures.other refl));
      count = grind (arith, common_steps);
      counted = grind (arith, common_steps);
      room = omega (arith, before.room, c.push.ensures.capacity);
      rooms = omega (arith, before.rooms, c.push-else-is_err.ensures.capacity);
    }

pub returns-then-is_unavailable-clause-ran : goal.returns-then-is_unavailable-clause-ran
returns-then-is_unavailable-clause-ran g c = λ clean h held sound.
    let it = c.answer_with_account-answer.ensures.answered in
    let before = c.arrivals.invariant in
    let as_many : length c.arrivals.answers.items ≡ c.arrivals.arrival-index = grind (arith, common_steps) in
    subst (λ (n : ℕ). IsRan g.S.HallStore (store_of c.answer_with_account-answer.new.self) (site_of c.args.self.now) h (take n c.args.arrivals.now) c.arrivals.answers.items) (sym as_many)
    (ran_before g.S.HallStore (site_of c.args.self.now) (site_of c.arrivals.self) before.site h (store_of c.arrivals.self) (store_of c.answer_with_account-answer.new.self)
    (take c.arrivals.arrival-index c.args.arrivals.now) c.arrivals.answers.items (before.ran (it.given clean).0 h held sound)
    c.arrival-item.result c.answer_with_account-answer.result.0 (it.given clean).1 (c.if-is_unavailable.ensures.is refl))

pub returns-clause-ran : goal.returns-clause-ran
returns-clause-ran g c = λ clean h held sound.
    let as_many : length c.arrivals.answers.items ≡ c.arrivals.arrival-index = grind (arith, common_steps) in
    subst (λ (n : ℕ). IsRan g.S.HallStore (store_of c.arrivals.self) (site_of c.args.self.now) h (take n c.args.arrivals.now) c.arrivals.answers.items) (sym as_many)
    (c.arrivals.invariant.ran clean h held sound)
