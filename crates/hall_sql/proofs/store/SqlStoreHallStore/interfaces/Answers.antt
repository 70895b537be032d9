use Rattle.sql_items.specs.ChildLaws.{lists_interfaces}
use Rattle.hall_sql.proofs.StoreLemmas.{asks}
use Rattle.hall_sql.proofs.store.SqlStoreHallStore.interfaces.Goals as goal

pub returns : goal.returns
returns g c =
    asks g.S.Store _ _ _ c.if-self.false c.ask_all-answer.ensures.clean (λ clean. c.ask_all-answer.ensures.asked clean _ lists_interfaces)
    c.pass.ensures.clean c.pass.ensures.passed c.pass.ensures.settled
