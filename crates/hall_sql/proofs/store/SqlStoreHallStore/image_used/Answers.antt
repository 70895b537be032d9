use Rattle.hall_sql.proofs.StoreLemmas.{asks}
use Rattle.hall_sql.proofs.store.SqlStoreHallStore.image_used.Goals as goal

pub returns : goal.returns
returns g c = asks g.S.Store _ _ _ c.if-self.false c.is_image_used-answer.ensures.clean c.is_image_used-answer.ensures.asked c.pass.ensures.clean c.pass.ensures.passed c.pass.ensures.settled
