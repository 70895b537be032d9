use Rattle.sql_schema.specs.Words.{interfaces_of}
use Rattle.sql_items.specs.ChildLaws.{finds_interfaces}
use Rattle.hall_sql.proofs.StoreLemmas.{asks}
use Rattle.hall_sql.proofs.store.SqlStoreHallStore.interfaces_of.Goals as goal

pub returns : goal.returns
returns g c =
    asks g.S.Store _ _ _ c.if-self.false c.ask_all-answer.ensures.clean
    (λ clean. c.ask_all-answer.ensures.asked clean (λ h. interfaces_of h c.args.id)
    (rw (c.number_value.ensures, c.get.ensures.number) (finds_interfaces c.args.id)))
    c.pass.ensures.clean c.pass.ensures.passed c.pass.ensures.settled
