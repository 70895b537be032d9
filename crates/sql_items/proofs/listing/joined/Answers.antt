use Rattle.std.proofs.Common.{◌≡◌, ◌<◌, ◌+◌, suc, length, arith}
use Rattle.sql_items.proofs.JoinLemmas.{steps}
use Rattle.sql_items.proofs.listing.joined.Goals as goal

pub rows-preserved : goal.rows-preserved
rows-preserved c =
    let low : c.rows.row-index < length c.args.rows.now = omega (arith, c.rows-test.true) in
    let one : c.rows.row-index + 1 ≡ suc c.rows.row-index = omega arith in
    steps c.args.erasings.now c.args.rows.now c.rows.row-index c.rows.next low c.row-item.result c.row-item.is c.rows.all.items _ c.rows.invariant
    c.kind_at-erase.result.0 c.kind_at-erase.ensures.kind _ _ _ one c.kind_at-erase.ensures.next c.in_ok-push.ensures.items
