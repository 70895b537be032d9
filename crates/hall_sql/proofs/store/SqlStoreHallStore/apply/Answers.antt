use Rattle.hall_sql.proofs.StoreLemmas.{none_written, write_by}
use Rattle.hall_sql.proofs.store.SqlStoreHallStore.apply.Goals as goal

pub returns-then-self : goal.returns-then-self
returns-then-self g c clean = (clean, none_written g.S.Store c.args.self.now _ c.args.change.now)

pub returns : goal.returns
returns g c clean =
    let was = c.pass.ensures.clean clean in (
      c.write_rows-answer.ensures.clean was,
      write_by g.S.Store c.args.self.now c.earliest_after-self.result c.write_rows-answer.new.conn c.if-self.false c.args.change.now c.earliest_after-self.ensures.lower
          (rw c.writes.ensures at c.earliest_after-self.ensures.put) c.write_rows-answer.result c.pass.new.self c.pass.result
          (rw c.writes-2.ensures at (c.write_rows-answer.ensures.told was)) (c.pass.ensures.passed clean) clean c.pass.ensures.settled,
    )
