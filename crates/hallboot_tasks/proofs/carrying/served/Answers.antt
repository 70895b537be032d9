use Rattle.hallboot_tasks.proofs.ServedLemmas.{goes_none, goes_within, was_served}
use Rattle.hallboot_tasks.proofs.carrying.served.Goals as goal

pub returns-in-Ok : goal.returns-in-Ok
returns-in-Ok g c =
    rw c.into_inner.ensures
    (λ clean.
    let it = c.serve-task.ensures clean in
    was_served (record { laws = c.histories_keep_the_laws.ensures }) g.S.HallStore _ _ it.1.0
    (goes_within _ g.S.HallStore c.in-Ok.cached _ c.args.store _ it.1.0 c.in-Ok.ensures.held (λ h keeps. keeps.held) (λ hs left. rw c.in-Ok.ensures.made left) (λ hs left. left) it.1.1))

pub returns-in-Err : goal.returns-in-Err
returns-in-Err g c = λ clean.
    rw c.in-Err.ensures.refused
    (was_served (record { laws = c.histories_keep_the_laws.ensures }) g.S.HallStore _ _ c.args.serving.now.place (goes_none g.S.HallStore _ _))
