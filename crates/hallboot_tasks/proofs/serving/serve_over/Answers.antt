use Rattle.hallboot_tasks.proofs.ServedLemmas.{goes_within, led_within}
use Rattle.hallboot_tasks.proofs.serving.serve_over.Goals as goal

pub returns-clause-clean : goal.returns-clause-clean
returns-clause-clean g c =
    rw (c.into_inner.ensures, c.into_store.ensures, c.into_parts-desk.ensures.desk)
    (λ clean. rw (c.new-service.ensures.desk, c.desk_over-desk.ensures.store, c.new-store.ensures.store) at (c.serve_part-ended.ensures.kept.clean clean))

pub returns-clause-goes : goal.returns-clause-goes
returns-clause-goes g c =
    rw (c.into_inner.ensures, c.into_store.ensures, c.into_parts-desk.ensures.desk)
    (λ clean.
    let closed = c.serve_part-ended.ensures.kept.closed clean (rw (c.new-service.ensures.desk, c.desk_over-desk.ensures.store) c.new-store.ensures.opened) in
    goes_within _ g.S.HallStore _ _ c.args.store _ c.args.place
    (λ h held. rw c.desk_over-desk.ensures.store (c.new-store.ensures.held h held))
    (λ h led. led_within g.S.HallStore _ h closed led)
    (λ hs left opened. rw (c.desk_over-desk.ensures.store, c.new-store.ensures.store) left)
    (λ hs left. left closed)
    (rw (c.new-service.ensures.desk, c.desk_over-desk.ensures.site) at (c.serve_part-ended.ensures.goes clean)))
