use Rattle.sql_schema.specs.Words.{Database, is_used, state}
use Rattle.std.proofs.Common.{◌≡◌, ◌≢◌, Err, Ok, ap, codes, false, rules, subst}
use Rattle.sql_tables.{specs.{Opening.IsRightAnswer, declared.{fault.OpenFault.{OpenFault, TheVariants.OtherVersion}, migrating.Migrated.TheVariants.{Already, Now}}}, proofs.MigratingLemmas.{first_of, first_right, left_same, made_after, second_of, second_right, used_right}}
use Rattle.sql_tables.proofs.migrating.migrate.Goals as goal

-- ---- the tables of the first schema were there

pub returns-in-Ok-carry_first-clause-made : goal.returns-in-Ok-carry_first-clause-made
returns-in-Ok-carry_first-clause-made g c clean h become =
    let before = c.carry_first.ensures.clean clean in
    let it = first_of (state g.S.Store c.args.conn.now) (state g.S.Store c.look_for.new.conn) h c.look_for.ensures.live (c.in-Ok.ensures.ready before) (c.in-Ok.ensures.answered before) become in
    made_after (Ok Now) h c.look_for.ensures.survives before (c.in-Ok-carry_first.ensures.made clean it.0 h it.1 it.2) (λ held. held)

pub returns-in-Ok-carry_first-clause-answered : goal.returns-in-Ok-carry_first-clause-answered
returns-in-Ok-carry_first-clause-answered g c clean =
    let before = c.carry_first.ensures.clean clean in
    record { told = (c.in-Ok.ensures.answered before, subst (λ (d : Database). is_used d.schema (codes "wipes") ≡ false) (c.in-Ok.ensures.ready before).same c.in-Ok-carry_first.ensures.free) }

pub returns-in-Err-carry_first-clause-made : goal.returns-in-Err-carry_first-clause-made
returns-in-Err-carry_first-clause-made g c clean h become =
    let before = c.carry_first.ensures.clean clean in
    let it = first_of (state g.S.Store c.args.conn.now) (state g.S.Store c.look_for.new.conn) h c.look_for.ensures.live (c.in-Ok.ensures.ready before) (c.in-Ok.ensures.answered before) become in
    made_after (Err c.in-Err-carry_first.fault) h c.look_for.ensures.survives before (c.in-Err-carry_first.ensures.made clean it.0 h it.1 it.2) (λ none. none)

pub returns-in-Err-carry_first-clause-answered : goal.returns-in-Err-carry_first-clause-answered
returns-in-Err-carry_first-clause-answered g c clean =
    let before = c.carry_first.ensures.clean clean in
    used_right (state g.S.Store c.args.conn.now).now (state g.S.Store c.look_for.new.conn).now (c.in-Ok.ensures.ready before).same c.in-Err-carry_first.fault (c.in-Ok.ensures.answered before)
    (λ e. c.in-Err-carry_first.ensures.used (ap (λ k. Err k) e)) (λ e. c.in-Err-carry_first.ensures.never (ap (λ k. Err k) e))

-- ---- they weren't

pub returns-in-Ok-look_at_tables-clause-made : goal.returns-in-Ok-look_at_tables-clause-made
returns-in-Ok-look_at_tables-clause-made g c clean h become =
    let before = c.look_at_tables.ensures.clean clean in
    let told = rw c.in-Err-OtherVersion.field-0-is at (c.in-Err-OtherVersion.ensures.answered before) in
    let ready = rw c.in-Err-OtherVersion.field-0-is at (c.in-Err-OtherVersion.ensures.ready before) in
    let spelt = second_of (state g.S.Store c.args.conn.now) (state g.S.Store c.look_for.new.conn) h c.look_for.ensures.live ready told become in
    made_after {Y = Unit {0}} {E = OpenFault} {r = Ok tt} (Ok Already) h c.look_for.ensures.survives before (record { held = c.in-Ok-look_at_tables.ensures.held clean h spelt; crash = left_same h c.look_at_tables.ensures.survives clean }) (λ held. held)

pub returns-in-Ok-look_at_tables-clause-answered : goal.returns-in-Ok-look_at_tables-clause-answered
returns-in-Ok-look_at_tables-clause-answered g c clean =
    let ready = rw c.in-Err-OtherVersion.field-0-is at (c.in-Err-OtherVersion.ensures.ready (c.look_at_tables.ensures.clean clean)) in
    record { told = subst (λ (d : Database). IsRightAnswer d (Ok tt)) ready.same (c.in-Ok-look_at_tables.ensures.answered clean) }

pub returns-in-Err-look_at_tables-clause-answered : goal.returns-in-Err-look_at_tables-clause-answered
returns-in-Err-look_at_tables-clause-answered g c clean =
    let before = c.look_at_tables.ensures.clean clean in
    let told = rw c.in-Err-OtherVersion.field-0-is at (c.in-Err-OtherVersion.ensures.answered before) in
    let ready = rw c.in-Err-OtherVersion.field-0-is at (c.in-Err-OtherVersion.ensures.ready before) in
    second_right (state g.S.Store c.args.conn.now).now (state g.S.Store c.look_for.new.conn).now ready.same c.in-Err-look_at_tables.fault told (c.in-Err-look_at_tables.ensures.answered clean)

-- ---- it couldn't be said, or they aren't a hall's

pub returns-in-Err-clause-answered : goal.returns-in-Err-clause-answered
returns-in-Err-clause-answered g c clean =
    let other : c.in-Err.fault ≢ OtherVersion = search rules in first_right (state g.S.Store c.args.conn.now).now c.in-Err.fault other (c.in-Err.ensures.answered clean)
