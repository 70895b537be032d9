use Rattle.sql_schema.specs.Words.{state, settles}
use Rattle.sql_tables.{specs.{declared.looking.Wanted.TheVariants.Second, OpeningLaws.no_hall}, proofs.OpenLemmas.{has_second, held_ready, on_said, refused_as, says_second}}
use Rattle.sql_tables.proofs.opening.look_at_tables.Goals as goal

pub returns-clause-held : goal.returns-clause-held
returns-clause-held g c clean =
    on_said c.look_for.result (c.look_for.ensures.ready clean) (λ ready h spelt. held_ready (state g.S.Store c.args.conn.now) (state g.S.Store c.look_for.new.conn) h c.look_for.ensures.live ready spelt)

pub returns-clause-settled : goal.returns-clause-settled
returns-clause-settled g c clean =
    on_said c.look_for.result (c.look_for.ensures.ready clean) (λ ready h spelt. settles (state g.S.Store c.look_for.new.conn) h (λ db live may. g.met.S.Store.settled c.look_for.new.conn.store db live may)
    (held_ready (state g.S.Store c.args.conn.now) (state g.S.Store c.look_for.new.conn) h c.look_for.ensures.live ready spelt))

pub returns-clause-refused : goal.returns-clause-refused
returns-clause-refused g c clean here h spelt =
    let db = (state g.S.Store c.args.conn.now).now in
    let sound = (c.look_for.ensures.live here).0 in
    refused_as Second db c.look_for.result (says_second db h sound spelt) (has_second db h sound spelt) (c.look_for.ensures.answered clean)

pub returns-clause-no_hall : goal.returns-clause-no_hall
returns-clause-no_hall g c clean none = no_hall Second (state g.S.Store c.args.conn.now).now c.look_for.result (c.look_for.ensures.answered clean) none
