use Rattle.hall_desk.specs.{Desk.{site_of, store_of}, HistoryLaws.{after_events, event_crash, event_stop, events_given}}
use Rattle.hall_desk.proofs.desk.Desk.step.Goals as goal

pub returns-clause-history : goal.returns-clause-history
returns-clause-history g c = λ clean.
    after_events (record { laws = c.histories_keep_the_laws.ensures }) g.S.HallStore (store_of c.args.self.now) (store_of c.carry_out.new.self)
    (site_of c.args.self.now) c.args.event.now c.args.moment c.args.fresh c.event_is_typed.ensures
    (λ h sound second. c.decisions_keep_the_rules.ensures (site_of c.args.self.now) h c.args.event.now c.args.moment c.args.fresh sound second) g.S.HallStore.second_schema
    c.carry_out.result (c.carry_out.ensures.step clean).1

pub returns-clause-settled : goal.returns-clause-settled
returns-clause-settled g c = λ clean.
    events_given (record { laws = c.histories_keep_the_laws.ensures }) g.S.HallStore (store_of c.args.self.now) (store_of c.carry_out.new.self)
    (site_of c.args.self.now) c.args.event.now c.args.moment c.args.fresh c.event_is_typed.ensures
    (λ h sound second. c.decisions_keep_the_rules.ensures (site_of c.args.self.now) h c.args.event.now c.args.moment c.args.fresh sound second) g.S.HallStore.second_schema
    c.carry_out.result (c.carry_out.ensures.step clean).1

pub returns-clause-stop : goal.returns-clause-stop
returns-clause-stop g c = λ clean.
    event_stop (record { laws = c.histories_keep_the_laws.ensures }) g.S.HallStore (store_of c.args.self.now) (store_of c.carry_out.new.self)
    (site_of c.args.self.now) c.args.event.now c.args.moment c.args.fresh c.event_is_typed.ensures
    (λ h sound second. c.decisions_keep_the_rules.ensures (site_of c.args.self.now) h c.args.event.now c.args.moment c.args.fresh sound second) g.S.HallStore.second_schema
    c.carry_out.result (c.carry_out.ensures.step clean).1

pub returns-clause-crash : goal.returns-clause-crash
returns-clause-crash g c = λ clean.
    event_crash (record { laws = c.histories_keep_the_laws.ensures }) g.S.HallStore (store_of c.args.self.now) (store_of c.carry_out.new.self)
    (site_of c.args.self.now) c.args.event.now c.args.moment c.args.fresh c.event_is_typed.ensures
    (λ h sound second. c.decisions_keep_the_rules.ensures (site_of c.args.self.now) h c.args.event.now c.args.moment c.args.fresh sound second) g.S.HallStore.second_schema
    c.carry_out.result (c.carry_out.ensures.step clean).1
