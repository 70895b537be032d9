use Rattle.std.proofs.{Common.{rules, arith, ◌≡◌, ◌<◌, List, [], refl, sym, ◌∙◌, length, take, subst}, lemmas.{Grind.common_steps, List.take_more}}
use Rattle.hall_desk.{specs.{AttemptLaws.read_same, Desk.{site_of, store_of}, HistoryLaws.{after_run, run_given, run_stop}, RunLaws.has_run_none, Stops.HasRun, declared.arrival.{Answer.Answer, Arrival.Arrival}}, proofs.RunLemmas.{idle_more, ran_more}}
use Rattle.hall_desk.proofs.desk.Desk.run.Goals as goal

pub loop-arrival-init : goal.loop-arrival-init
loop-arrival-init g c = record {
  clean = λ clean. clean;
  site = refl;
  enlists = refl;
  ran = λ clean h held sound.
      subst (λ (answers : List Answer). HasRun g.S.HallStore (store_of c.args.self.now) (store_of c.args.self.now) (site_of c.args.self.now) h [] answers) (sym c.in_ok-answers.ensures.items)
      (has_run_none g.S.HallStore (site_of c.args.self.now) h _ _ (read_same g.S.HallStore _) held sound);
  idle = λ clean h held none. (held, none);
  count = search rules;
  room = search rules;
}

pub loop-arrival-preserved : goal.loop-arrival-preserved
loop-arrival-preserved g c =
    let here : c.loop-arrival.arrival-index < length c.args.arrivals.now = c.loop-arrival-test.true in
    let before = c.loop-arrival.invariant in
    record {
      clean = λ clean. before.clean (c.answer-answer.ensures.given clean).0;
      site = c.answer-answer.ensures.site ∙ before.site;
      enlists = c.answer-answer.ensures.enlists ∙ before.enlists;
      ran = λ clean h held sound.
          rw (take_more c.args.arrivals.now c.loop-arrival.arrival-index c.arrival-item.result here, sym c.arrival-item.is, c.push.ensures.items, c.if-is_err.ensures.negation)
          (ran_more g.S.HallStore (site_of c.args.self.now) (site_of c.loop-arrival.self) before.site
          (store_of c.args.self.now) (store_of c.loop-arrival.self) (store_of c.answer-answer.new.self) h
          (take c.loop-arrival.arrival-index c.args.arrivals.now) c.loop-arrival.answers.items c.arrival-item.result c.answer-answer.result
          (before.ran (c.answer-answer.ensures.given clean).0 h held sound) (c.answer-answer.ensures.given clean).1);
      idle = λ clean h held none.
          let was = before.idle (c.answer-answer.ensures.given clean).0 h held none in
          idle_more g.S.HallStore (site_of c.args.self.now) (site_of c.loop-arrival.self) before.site
          (store_of c.loop-arrival.self) (store_of c.answer-answer.new.self) h c.args.arrivals.now c.loop-arrival.arrival-index c.arrival-item.result c.answer-answer.result
          here c.arrival-item.is (c.answer-answer.ensures.given clean).1 was;
      count = grind (arith, common_steps);
      room = omega (arith, before.room, c.push.ensures.capacity);
    }

pub returns-clause-run : goal.returns-clause-run
returns-clause-run g c = λ clean h held sound.
    let whole : take c.loop-arrival.arrival-index c.args.arrivals.now ≡ c.args.arrivals.now = grind (arith, common_steps) in
    subst (λ (arrivals : List Arrival). HasRun g.S.HallStore (store_of c.args.self.now) (store_of c.loop-arrival.self) (site_of c.args.self.now) h arrivals c.loop-arrival.answers.items) whole
    (c.loop-arrival.invariant.ran clean h held sound)

pub returns-clause-history : goal.returns-clause-history
returns-clause-history g c = λ clean origin past was.
    after_run (record { laws = c.histories_keep_the_laws.ensures }) g.S.HallStore (store_of c.args.self.now) (store_of c.loop-arrival.self)
    (site_of c.args.self.now) origin past was c.args.arrivals.now c.loop-arrival.answers.items (λ h held sound. (returns-clause-run g c clean h held sound).ran)

pub returns-clause-settled : goal.returns-clause-settled
returns-clause-settled g c = λ clean origin past was.
    run_given (record { laws = c.histories_keep_the_laws.ensures }) g.S.HallStore (store_of c.args.self.now) (store_of c.loop-arrival.self)
    (site_of c.args.self.now) origin past was c.args.arrivals.now c.loop-arrival.answers.items (returns-clause-run g c clean)

pub returns-clause-stop : goal.returns-clause-stop
returns-clause-stop g c = λ clean origin past was.
    run_stop (record { laws = c.histories_keep_the_laws.ensures }) g.S.HallStore (store_of c.args.self.now) (store_of c.loop-arrival.self)
    (site_of c.args.self.now) origin past was c.args.arrivals.now c.loop-arrival.answers.items (returns-clause-run g c clean)
