use Rattle.sql_schema.specs.Words.{at}
use Rattle.sql_items.specs.TableLaws.{finds_operator}
use Rattle.hall_sql.proofs.StoreLemmas.{asks}
use Rattle.hall_sql.proofs.store.SqlStoreHallStore.operator.Goals as goal

pub returns : goal.returns
returns g c =
    asks g.S.Store _ _ _ c.if-self.false c.ask_one-answer.ensures.clean
    (λ clean. c.ask_one-answer.ensures.asked clean (λ h. at h.operators c.args.name.now)
    (rw c.name_value.ensures (finds_operator c.args.name.now)))
    c.pass.ensures.clean c.pass.ensures.passed c.pass.ensures.settled
