use Rattle.sql_schema.specs.{Words.{state, status_number}, StepLaws.writes}
use Rattle.std.proofs.Common.{arith}
use Rattle.sql_items.proofs.CountLemmas.{puts_count, removes_count}
use Rattle.sql_items.proofs.counts.put_count.Goals as goal

pub returns-then-count-eq0-clause-written : goal.returns-then-count-eq0-clause-written
returns-then-count-eq0-clause-written g c clean =
    let went = rw (c.name_value-pool.ensures, c.small_value-status.ensures, c.number.ensures.number) at (c.write.ensures.written clean) in
    rw c.if-count-eq0.true (writes (state g.S.Store) _ _ _ _ c.write.result went (λ before rows may. removes_count c.args.pool.now (status_number c.args.status) (state g.S.Store) before rows))

pub returns-else-count-eq0-clause-written : goal.returns-else-count-eq0-clause-written
returns-else-count-eq0-clause-written g c clean =
    let put = rw (c.statement_from.ensures, c.name_value-pool.ensures, c.small_value-status.ensures, c.number_value.ensures, c.number.ensures.number) at (c.write-else-count-eq0.ensures.written clean) in
    writes (state g.S.Store) _ _ _ _ c.write-else-count-eq0.result put
    (λ before rows may. puts_count c.args.pool.now (status_number c.args.status) (state g.S.Store) c.args.was c.args.count before rows may (omega (arith, c.if-count-eq0.false)))
