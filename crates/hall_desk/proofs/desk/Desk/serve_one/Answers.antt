use Rattle.std.proofs.Common.{inl, inr, refl, sym, subst}
use Rattle.hall_desk.{specs.{Desk.{site_of, store_of}, Headline.{HasHistory, requested}, HistoryLaws.{after_answer, after_served, nothing_came, request_stop, settled_served, settles}, Stops.{IsLeft, IsSettled, OrSomeRequest}}, proofs.ServedLemmas.served_from}
use Rattle.hall_desk.proofs.desk.Desk.serve_one.Goals as goal

pub returns-in-Some-clause-served : goal.returns-in-Some-clause-served
returns-in-Some-clause-served g c = λ clean.
    served_from _ _ _ _ _ _ _ _ _ _ _ c.send.ensures.written (c.in-Some.ensures.step clean)
    (rw c.octets.ensures at c.send.ensures.sent)

pub returns-in-Some-clause-history : goal.returns-in-Some-clause-history
returns-in-Some-clause-history g c = λ clean.
    after_served (record { laws = c.histories_keep_the_laws.ensures }) g.S.HallStore
    (store_of c.args.self.now) (store_of c.take_request.new.self) (site_of c.args.self.now) _ _ _ _ _ _ (returns-in-Some-clause-served g c clean)

pub returns-in-None-clause-goes_on : goal.returns-in-None-clause-goes_on
returns-in-None-clause-goes_on g c = λ clean origin past was.
    inl (subst (λ desk. HasHistory g.S.HallStore (store_of desk) origin past) (sym c.in-None.ensures.same) was)

pub returns-in-Some-clause-goes_on : goal.returns-in-Some-clause-goes_on
returns-in-Some-clause-goes_on g c = λ clean origin past was.
    let it = c.in-Some.ensures.some clean in inr (
      it.0,
      c.in-Some.answer,
      after_answer (record { laws = c.histories_keep_the_laws.ensures }) g.S.HallStore (store_of c.args.self.now) (store_of c.take_request.new.self)
          (site_of c.args.self.now) origin past was (requested it.0 c.args.moment c.args.fresh) c.in-Some.answer it.1,
    )

pub returns-in-None-clause-stop : goal.returns-in-None-clause-stop
returns-in-None-clause-stop g c = λ clean origin past was.
    subst (λ desk. IsLeft g.S.HallStore (store_of desk) origin (OrSomeRequest past (site_of c.args.self.now) c.args.moment c.args.fresh)) (sym c.in-None.ensures.same)
    (nothing_came (record { laws = c.histories_keep_the_laws.ensures }) g.S.HallStore (store_of c.args.self.now) (store_of c.args.self.now)
    (site_of c.args.self.now) origin past was (OrSomeRequest past (site_of c.args.self.now) c.args.moment c.args.fresh) (inl refl))

pub returns-in-Some-clause-stop : goal.returns-in-Some-clause-stop
returns-in-Some-clause-stop g c = λ clean origin past was.
    let it = c.in-Some.ensures.some clean in
    request_stop (record { laws = c.histories_keep_the_laws.ensures }) g.S.HallStore (store_of c.args.self.now) (store_of c.take_request.new.self)
    (site_of c.args.self.now) origin past was it.0 c.args.moment c.args.fresh c.in-Some.answer it.1

pub returns-in-Some-clause-settled : goal.returns-in-Some-clause-settled
returns-in-Some-clause-settled g c = λ clean.
    settled_served (record { laws = c.histories_keep_the_laws.ensures }) g.S.HallStore
    (store_of c.args.self.now) (store_of c.take_request.new.self) (site_of c.args.self.now) _ _ _ _ _ _ (returns-in-Some-clause-served g c clean)

pub returns-in-None-clause-goes_on_settled : goal.returns-in-None-clause-goes_on_settled
returns-in-None-clause-goes_on_settled g c = λ clean origin past was.
    inl (subst (λ desk. IsSettled g.S.HallStore (store_of desk) origin past) (sym c.in-None.ensures.same) was)

pub returns-in-Some-clause-goes_on_settled : goal.returns-in-Some-clause-goes_on_settled
returns-in-Some-clause-goes_on_settled g c = λ clean origin past was.
    let it = c.in-Some.ensures.some clean in inr (
      it.0,
      c.in-Some.answer,
      settles (record { laws = c.histories_keep_the_laws.ensures }) g.S.HallStore (store_of c.args.self.now) (store_of c.take_request.new.self)
          (site_of c.args.self.now) origin past was it.0 c.args.moment c.args.fresh c.in-Some.answer it.1,
    )
