use Rattle.sql_schema.specs.Words.{at, pair}
use Rattle.sql_items.specs.TableLaws.{finds_receipt}
use Rattle.hall_sql.proofs.StoreLemmas.{asks}
use Rattle.hall_sql.proofs.store.SqlStoreHallStore.receipt.Goals as goal

pub returns : goal.returns
returns g c =
    asks g.S.Store _ _ _ c.if-self.false c.ask_one-answer.ensures.clean
    (λ clean. c.ask_one-answer.ensures.asked clean (λ h. at h.receipts (pair c.args.operator.now c.args.key))
    (rw (c.name_value.ensures, c.octets_value.ensures, c.octets-octets.ensures.octets) (finds_receipt c.args.operator.now c.args.key)))
    c.pass.ensures.clean c.pass.ensures.passed c.pass.ensures.settled
