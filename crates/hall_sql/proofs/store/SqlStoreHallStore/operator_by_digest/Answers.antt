use Rattle.sql_schema.specs.AskingLaws.{reads}
use Rattle.std.proofs.Common.{◌∙◌}
use Rattle.sql_items.specs.TableLaws.{with_digest, lists_digest, first_with_digest}
use Rattle.hall_sql.proofs.StoreLemmas.{asks}
use Rattle.hall_sql.proofs.store.SqlStoreHallStore.operator_by_digest.Goals as goal

pub returns : goal.returns
returns g c =
    asks g.S.Store _ _ _ c.if-self.false c.ask_first-answer.ensures.clean (λ clean.
    reads _ c.ask_first-answer.result (c.ask_first-answer.ensures.asked clean (with_digest c.args.digest.now) (rw (c.octets_value.ensures, c.octets-octets.ensures.octets) (lists_digest c.args.digest.now)))
    (λ h found is. is ∙ first_with_digest c.args.digest.now h))
    c.pass.ensures.clean c.pass.ensures.passed c.pass.ensures.settled
