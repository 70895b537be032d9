use Rattle.sql_schema.specs.{Words.{state, HasCleanDisk, IsWithin}, StepLaws.{next, writes}}
use Rattle.std.proofs.Common.{Some, None, subst, arith}
use Rattle.sql_items.{specs.{Wipes.with_wipe, WipeLaws.put-gone}, proofs.WipeLemmas.{adds_wipe, removes_wipe}}
use Rattle.sql_items.proofs.wipes.put_wipe.Goals as goal

pub returns-in-None-clause-written : goal.returns-in-None-clause-written
returns-in-None-clause-written g c clean =
    let went = rw (c.number_value.ensures, c.get.ensures.number) at (c.in-Ok.ensures.written clean) in
    rw c.in-None.is (writes (state g.S.Store) _ _ _ _ _ went (λ before rows may. removes_wipe (state g.S.Store) c.args.id before rows))

pub returns-in-Some-clause-written : goal.returns-in-Some-clause-written
returns-in-Some-clause-written g c clean =
    let new = state g.S.Store c.write-in-Some.new.tx.conn.now in
    let mid : HasCleanDisk (state g.S.Store c.write.new.tx.conn.now) = omega (arith, c.write-in-Some.ensures.survives.clean, clean) in
    let went = rw (c.number_value.ensures, c.get.ensures.number) at (c.in-Ok.ensures.written mid) in
    let came = rw (c.number_value-in-Some.ensures, c.small_value.ensures, c.get-in-Some.ensures.number, c.number.ensures) at (c.write-in-Some.ensures.written clean) in
    rw c.in-Some.is (next _ _ c.write-in-Some.result went came (λ done removed added before rows held may.
    let gone = with_wipe rows c.args.id None in
    subst (λ wipes. IsWithin new before (record rows { wipes = wipes })) (put-gone rows.wipes c.args.id _)
    (added before gone (with_wipe gone c.args.id (Some c.in-Some.erase)) (adds_wipe (state g.S.Store) c.args.id c.in-Some.erase before gone)
    (removed before rows gone (removes_wipe (state g.S.Store) c.args.id before rows) held))))
