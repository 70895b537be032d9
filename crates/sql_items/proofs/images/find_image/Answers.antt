use Rattle.sql_schema.specs.Words.{state, at, if_ok, asked_then, asked_failed}
use Rattle.std.proofs.Common.{Ok, Err}
use Rattle.sql_items.proofs.ImageLemmas.{ShowsImage, finds_image}
use Rattle.sql_items.proofs.images.find_image.Goals as goal

pub returns-in-Ok-clause-asked : goal.returns-in-Ok-clause-asked
returns-in-Ok-clause-asked g c clean =
    let name = c.args.name.now in
    asked_then _ _ (ShowsImage name) _ c.in-Ok.rows.items c.first_image.result
    (finds_image name (state g.S.Store c.args.conn.now) (state g.S.Store c.query_all.new.self) clean
    (rw c.name_value.ensures at c.in-Ok.ensures.survives) (Ok c.in-Ok.rows.items) (rw c.name_value.ensures at (c.in-Ok.ensures.ok clean)) tt)
    (if_ok _ _ c.first_image.result c.first_image.ensures (λ found first h is. first (at h.images name) is.1 is.0))

pub returns-in-Err-clause-asked : goal.returns-in-Err-clause-asked
returns-in-Err-clause-asked g c clean =
    asked_failed _ _ (ShowsImage c.args.name.now) _ c.in-Err.error
    (finds_image c.args.name.now (state g.S.Store c.args.conn.now) (state g.S.Store c.query_all.new.self) clean
    (rw c.name_value.ensures at c.in-Err.ensures.survives) (Err c.in-Err.error) tt (rw c.name_value.ensures at (c.in-Err.ensures.err clean)))
