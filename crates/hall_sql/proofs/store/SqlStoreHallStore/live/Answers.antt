use Rattle.sql_schema.specs.Words.{arch_number, at}
use Rattle.sql_items.specs.LiveLaws.{finds_live}
use Rattle.hall_sql.proofs.StoreLemmas.{asks}
use Rattle.hall_sql.proofs.store.SqlStoreHallStore.live.Goals as goal

pub returns : goal.returns
returns g c =
    asks g.S.Store _ _ _ c.if-self.false c.ask_one-answer.ensures.clean
    (λ clean. c.ask_one-answer.ensures.asked clean (λ h. at h.lives (arch_number c.args.arch))
    (rw (c.small_value.ensures, c.arch_number.ensures) (finds_live (arch_number c.args.arch))))
    c.pass.ensures.clean c.pass.ensures.passed c.pass.ensures.settled
