use Rattle.sql_schema.specs.Words.{vec_len, state, asked_then, asked_failed}
use Rattle.std.proofs.Common.{◌≡◌, ◌==◌, not, length, Ok, Err, ap, ◌∙◌, arith}
use Rattle.sql_items.specs.LiveLaws.{ShowsLive, finds_with_image}
use Rattle.sql_items.proofs.lives.is_live.Goals as goal

pub returns-in-Ok-clause-asked : goal.returns-in-Ok-clause-asked
returns-in-Ok-clause-asked g c clean =
    let many : vec_len c.in-Ok.rows ≡ length c.in-Ok.rows.items = omega (arith, c.in-Ok.rows.ok) in
    asked_then _ _ (ShowsLive c.args.image.now) _ c.in-Ok.rows.items _
    (finds_with_image c.args.image.now (state g.S.Store c.args.conn.now) (state g.S.Store c.query_all.new.self) clean
    (rw c.name_value.ensures at c.in-Ok.ensures.survives) (Ok c.in-Ok.rows.items) (rw c.name_value.ensures at (c.in-Ok.ensures.ok clean)) tt)
    (λ h is. ap not (c.is_empty.ensures ∙ ap (λ n. n == 0) many) ∙ is)

pub returns-in-Err-clause-asked : goal.returns-in-Err-clause-asked
returns-in-Err-clause-asked g c clean =
    asked_failed _ _ (ShowsLive c.args.image.now) _ c.in-Err.error
    (finds_with_image c.args.image.now (state g.S.Store c.args.conn.now) (state g.S.Store c.query_all.new.self) clean
    (rw c.name_value.ensures at c.in-Err.ensures.survives) (Err c.in-Err.error) tt (rw c.name_value.ensures at (c.in-Err.ensures.err clean)))
