use Rattle.sql_schema.specs.Words.{Held, state, HasCleanDisk, earlier}
use Rattle.std.proofs.Common.{◌≡◌, rules, subst, sym}
use Rattle.sql_tables.specs.Opening.{IsAnswerFor}
use Rattle.sql_tables.proofs.opening.look_for.Goals as goal

pub returns-then-is_running-clause-answered : goal.returns-then-is_running-clause-answered
returns-then-is_running-clause-answered g c clean =
    let same : c.rollback.new.self.0 ≡ c.conn-1.given.0 = search rules in
    let undone = subst (λ (k : Held _). HasCleanDisk (state g.S.Store k)) (sym same) (earlier c.is_running.ensures.survives clean) in
    subst (λ (k : Held _). IsAnswerFor c.args.wanted (state g.S.Store k).now c.look-found.result) c.transaction-tx.ensures.begun (c.look-found.ensures.answered (earlier c.rollback.ensures.survives undone))
