use Rattle.std.proofs.Common.{[], ◌∷◌}
use Rattle.desk_operations.{specs.{Prelude.{site_of, store_of}, Import.SettlesByAll}, proofs.ImportLemmas.{carried_on, in_turn_one, in_turn_refused, kept_on, refused_not_ok, row_carried, settled_one}}
use Rattle.desk_operations.proofs.imports.answer_row.Goals as goal

pub returns-in-Ok-clause-answered : goal.returns-in-Ok-clause-answered
returns-in-Ok-clause-answered g c = λ clean.
    row_carried g.S.HallStore (site_of c.args.desk.now) c.args.bearer c.args.moment
    c.decisions_keep_the_rules.ensures c.steps_keep_halls_sound.ensures.rows g.S.HallStore.second_schema
    (store_of c.args.desk.now) (store_of c.step-stepped.new.self) c.args.row.now c.event_of-event.result c.from.result c.event_of-event.ensures c.from.ensures c.in-Ok.reply
    (c.in-Ok.ensures.step clean).1

pub returns-in-Ok-clause-history : goal.returns-in-Ok-clause-history
returns-in-Ok-clause-history g c = λ clean.
    carried_on g.S.HallStore (site_of c.args.desk.now) c.args.bearer c.args.moment (store_of c.args.desk.now) (store_of c.step-stepped.new.self)
    c.args.row.now c.event_of-event.result c.from.result c.in-Ok.reply c.event_of-event.ensures c.from.ensures (c.in-Ok.ensures.history clean)

pub returns-in-Err-clause-history : goal.returns-in-Err-clause-history
returns-in-Err-clause-history g c = λ clean.
    kept_on g.S.HallStore (site_of c.args.desk.now) c.args.bearer c.args.moment (store_of c.args.desk.now) (store_of c.step-stepped.new.self) (c.in-Err.ensures.step clean).1.same

pub returns-in-Ok-clause-in_turn : goal.returns-in-Ok-clause-in_turn
returns-in-Ok-clause-in_turn g c = λ clean.
    in_turn_one (site_of c.args.desk.now) c.args.bearer c.args.moment g.S.HallStore (store_of c.args.desk.now) (store_of c.step-stepped.new.self)
    c.args.row.now c.event_of-event.result c.from.result c.in-Ok.reply c.event_of-event.ensures c.from.ensures
    (c.in-Ok.ensures.history clean) (c.in-Ok.ensures.crash clean)

pub returns-in-Err-clause-in_turn : goal.returns-in-Err-clause-in_turn
returns-in-Err-clause-in_turn g c = λ clean.
    in_turn_refused (site_of c.args.desk.now) c.args.bearer c.args.moment g.S.HallStore (store_of c.args.desk.now) (store_of c.step-stepped.new.self)
    c.args.row.now c.event_of-event.result c.from.result c.event_of-event.ensures c.from.ensures (c.in-Err.ensures.step clean).1.same (c.in-Err.ensures.crash clean)

pub returns-in-Ok-clause-settled : goal.returns-in-Ok-clause-settled
returns-in-Ok-clause-settled g c = λ clean.
    settled_one (site_of c.args.desk.now) c.args.bearer c.args.moment g.S.HallStore (store_of c.args.desk.now) (store_of c.step-stepped.new.self)
    c.args.row.now c.event_of-event.result c.from.result c.in-Ok.reply c.event_of-event.ensures c.from.ensures (c.in-Ok.ensures.settled clean)

pub returns-in-Err-clause-settled : goal.returns-in-Err-clause-settled
returns-in-Err-clause-settled g c = λ clean.
    refused_not_ok c.refused.result (SettlesByAll g.S.HallStore (store_of c.args.desk.now) (store_of c.step-stepped.new.self) (site_of c.args.desk.now) c.args.bearer c.args.moment
    (c.args.row.now ∷ [])) c.refused.ensures
