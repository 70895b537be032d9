use Rattle.sql_schema.specs.Words.{at, pair}
use Rattle.sql_items.specs.TableLaws.{finds_member}
use Rattle.hall_sql.proofs.StoreLemmas.{asks}
use Rattle.hall_sql.proofs.store.SqlStoreHallStore.member.Goals as goal

pub returns : goal.returns
returns g c =
    asks g.S.Store _ _ _ c.if-self.false c.ask_one-answer.ensures.clean
    (λ clean. c.ask_one-answer.ensures.asked clean (λ h. at h.members (pair c.args.pool.now c.args.operator.now))
    (rw (c.name_value.ensures, c.name_value-2.ensures) (finds_member c.args.pool.now c.args.operator.now)))
    c.pass.ensures.clean c.pass.ensures.passed c.pass.ensures.settled
