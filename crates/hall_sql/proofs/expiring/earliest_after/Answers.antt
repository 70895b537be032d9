use Rattle.sql_schema.specs.Words.{AllByRecursion, drop_all, next_item}
use Rattle.std.proofs.Common.{subst, sym, arith}
use Rattle.hall_sql.{specs.Expiring.PutsNoEarlier, proofs.ExpiryLemmas.lower_puts}
use Rattle.hall_sql.proofs.expiring.earliest_after.Goals as goal

pub writes-preserved : goal.writes-preserved
writes-preserved c = (
  omega (arith, c.earliest_with-known.ensures.lower, c.writes.invariant.0),
  λ moment low rest.
      c.writes.invariant.1 moment (omega (arith, low, c.earliest_with-known.ensures.lower))
      (subst (AllByRecursion (PutsNoEarlier moment))
      (sym (next_item c.args.writes.now c.writes.write-index c.write-item.result c.writes-test.true c.write-item.is))
      (lower_puts moment c.earliest_with-known.result c.write-item.result low c.earliest_with-known.ensures.put, rest)),
)

pub returns-clause-put : goal.returns-clause-put
returns-clause-put c =
    c.writes.invariant.1 c.writes.known (omega arith)
    (subst (AllByRecursion (PutsNoEarlier c.writes.known)) (sym (drop_all c.writes.write-index c.args.writes.now (omega (arith, c.writes-test.false)))) tt)
