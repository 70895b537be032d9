use Rattle.std.proofs.{Common.refl, lemmas.Bool.not-false}
use Rattle.hall_sql.proofs.store.SqlStore.pass.Goals as goal

pub returns-in-Ok-clause-passed : goal.returns-in-Ok-clause-passed
returns-in-Ok-clause-passed g c clean = rw c.in-Ok.is (refl, refl)

pub returns-in-Err-clause-passed : goal.returns-in-Err-clause-passed
returns-in-Err-clause-passed g c clean =
    rw c.in-Err.is (refl, (λ going. (c.is_running.ensures.same clean (not-false c.is_running.result going)).0.is_open), c.is_running.ensures.back clean, c.is_running.ensures.survives, refl)
