use Rattle.hall_sql.proofs.StoreLemmas.{asks}
use Rattle.hall_sql.proofs.store.SqlStoreHallStore.by_mac.Goals as goal

pub returns : goal.returns
returns g c = asks g.S.Store _ _ _ c.if-self.false c.machine_at-answer.ensures.clean c.machine_at-answer.ensures.asked c.pass.ensures.clean c.pass.ensures.passed c.pass.ensures.settled
