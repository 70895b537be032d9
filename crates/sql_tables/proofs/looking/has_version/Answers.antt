use Rattle.sql_schema.specs.{Words.{Database, state, earlier}, StepLaws.{next, reads_on}, declared.creating.TheConstants.FIND_NUMBERS}
use Rattle.std.proofs.Common.{◌≡◌, Ok, subst, ◌∙◌}
use Rattle.sql_tables.{specs.Opening.{NamesSchema, ShowsRows}, proofs.{LookLemmas.{found_in, not_found, schema_row, shown_rows}, TransactionLemmas.whatever}}
use Rattle.sql_tables.proofs.looking.has_version.Goals as goal

pub returns-in-Err-clause-found : goal.returns-in-Err-clause-found
returns-in-Err-clause-found g c clean =
    let db = (state g.S.Store c.args.tx.now.conn.now).now in not_found (NamesSchema db) c.args.wanted db c.in-Err.fault (c.in-Err.ensures.found clean)

pub returns-in-Ok-clause-step : goal.returns-in-Ok-clause-step
returns-in-Ok-clause-step g c clean =
    let mid = state g.S.Store c.understands.new.tx.conn.now in
    let new = state g.S.Store c.ask.new.tx.conn.now in
    let both = next (λ rows. new.now ≡ (state g.S.Store c.args.tx.now.conn.now).now) tt (Ok c.in-Ok.rows) (c.in_default.ensures.step (earlier c.ask.ensures.survives clean)) (c.in-Ok.ensures.asked clean)
    (λ rows same shown. (shown_rows mid new rows.items shown).1.0.now_is ∙ same) in
    reads_on _ c.in-Ok.rows c.version_in.result both (λ still. whatever c.version_in.result still)

pub returns-in-Ok-clause-told : goal.returns-in-Ok-clause-told
returns-in-Ok-clause-told g c clean n says =
    let shown = (shown_rows (state g.S.Store c.understands.new.tx.conn.now) (state g.S.Store c.ask.new.tx.conn.now) c.in-Ok.rows.items (c.in-Ok.ensures.asked clean).gives).0 in
    let same = (c.in_default.ensures.step (earlier c.ask.ensures.survives clean)).gives in
    let db = (state g.S.Store c.args.tx.now.conn.now).now in
    c.version_in.ensures.told n (schema_row db n c.in-Ok.rows.items says (subst (λ (d : Database). ShowsRows d FIND_NUMBERS.now c.in-Ok.rows.items) same shown))

pub returns-in-Ok-clause-found : goal.returns-in-Ok-clause-found
returns-in-Ok-clause-found g c clean =
    let shown = (shown_rows (state g.S.Store c.understands.new.tx.conn.now) (state g.S.Store c.ask.new.tx.conn.now) c.in-Ok.rows.items (c.in-Ok.ensures.asked clean).gives).0 in
    let same = (c.in_default.ensures.step (earlier c.ask.ensures.survives clean)).gives in
    let db = (state g.S.Store c.args.tx.now.conn.now).now in
    found_in c.args.wanted db c.in-Ok.rows.items c.version_in.result (subst (λ (d : Database). ShowsRows d FIND_NUMBERS.now c.in-Ok.rows.items) same shown) c.version_in.ensures.found
