use Rattle.std.proofs.lemmas.Result.{on_ok_weaker}
use Rattle.hallview_state.specs.{Families.{of_hall}}
use Rattle.hallview_state.proofs.samples.Metrics.add.Goals as goal

pub returns : goal.returns
returns c = on_ok_weaker c.push_sample.result (λ written. written (of_hall c.args.family c.args.hall.now) (c.in_ok-octets.ensures)) c.push_sample.ensures
