use Rattle.sql_schema.specs.Words.{at}
use Rattle.sql_items.specs.ChildLaws.{finds_boot}
use Rattle.hall_sql.proofs.StoreLemmas.{asks}
use Rattle.hall_sql.proofs.store.SqlStoreHallStore.boot.Goals as goal

pub returns : goal.returns
returns g c =
    asks g.S.Store _ _ _ c.if-self.false c.ask_one-answer.ensures.clean
    (λ clean. c.ask_one-answer.ensures.asked clean (λ h. at h.boots c.args.number)
    (rw (c.number_value.ensures, c.get.ensures.number) (finds_boot c.args.number)))
    c.pass.ensures.clean c.pass.ensures.passed c.pass.ensures.settled
