use Rattle.sql_schema.specs.{Words.{state, status_number, IsWithin}, StepLaws.{gives, then}}
use Rattle.std.proofs.Common.{◌-◌, ◌<◌, subst, arith}
use Rattle.sql_items.specs.Counts.{with_count}
use Rattle.sql_items.proofs.counts.count_down.Goals as goal

pub returns-in-Ok-clause-written : goal.returns-in-Ok-clause-written
returns-in-Ok-clause-written g c clean =
    gives _ c.put_count.result (then c.in-Ok.ensures.counted c.put_count.ensures.survives c.put_count.ensures.written clean)
    (λ done both before rows held.
    let it = both.0 before rows held in
    subst (λ n. IsWithin (state g.S.Store c.put_count.new.tx.conn.now) before (with_count rows c.args.pool.now (status_number c.args.status) (n - 1)) × (0 < n)) it.0
    (both.1 before rows it.1 it.0, omega (arith, c.in-Ok.count-test)))
