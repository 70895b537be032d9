use Rattle.hallboot_tasks.proofs.ServedLemmas.{goes_none, goes_reading, goes_then}
use Rattle.std.proofs.Common.{refl}
use Rattle.hallboot_tasks.proofs.serving.serve.Goals as goal

pub returns : goal.returns
returns g c = λ clean.
    let read = c.sum_of.ensures (c.serve_over-left.ensures.clean clean) in
    (read.0, (_, goes_then g.S.HallStore _ _ _ _ _ refl (goes_reading g.S.HallStore _ _ _ read.1) (c.serve_over-left.ensures.goes clean)))

pub returns-in-Err : goal.returns-in-Err
returns-in-Err g c = λ clean. (clean, (c.args.serving.now.place, goes_none g.S.HallStore _ _))
