use Rattle.sql_schema.specs.{Words.state, StepLaws.{gives, stays}}
use Rattle.std.proofs.Common.{Ok, false, sym, true, ◌∙◌}
use Rattle.sql_tables.proofs.CarryingLemmas.{full_put, kind_made}
use Rattle.sql_tables.proofs.migrating.put_kind.Goals as goal

pub returns-then-is_erasing-clause-made : goal.returns-then-is_erasing-clause-made
returns-then-is_erasing-clause-made g c clean =
    gives _ c.run.result (rw (c.number_value.ensures, c.small_value.ensures, c.get.ensures.number, c.number.ensures) at (c.run.ensures.ran clean))
    (λ done ran hall_rows m row was.
    kind_made c.args.row.now m row c.in_ok-id.id c.in_ok-status.status c.in_ok-id.ensures c.in_ok-status.ensures true (sym c.is_erasing.ensures ∙ c.if-is_erasing.true) (state g.S.Store c.run.new.tx.conn.now).now hall_rows
    (full_put c.in_ok-id.id ran hall_rows was))

pub returns-else-is_erasing-clause-made : goal.returns-else-is_erasing-clause-made
returns-else-is_erasing-clause-made g c clean =
    stays _ _ (Ok tt)
    (λ hall_rows m row was.
    kind_made c.args.row.now m row c.in_ok-id.id c.in_ok-status.status c.in_ok-id.ensures c.in_ok-status.ensures false (sym c.is_erasing.ensures ∙ c.if-is_erasing.false) (state g.S.Store c.args.tx.now.conn.now).now hall_rows was)
