use Rattle.std.proofs.lemmas.Result.{on_ok_weaker}
use Rattle.hallview_state.specs.{Exposition.{with_label}, Families.{label_name, of_hall}}
use Rattle.hallview_state.proofs.samples.Metrics.add_labelled.Goals as goal

pub returns : goal.returns
returns c = on_ok_weaker c.push_sample.result (λ written. written (with_label (of_hall c.args.family c.args.hall.now) (label_name c.args.label.0) c.args.label.1.now) (c.in_ok-push_next.ensures (of_hall c.args.family c.args.hall.now) c.in_ok-octets.ensures)) c.push_sample.ensures

pub push_sample-requires-clause-begun : goal.push_sample-requires-clause-begun
push_sample-requires-clause-begun c = (with_label (of_hall c.args.family c.args.hall.now) (label_name c.args.label.0) c.args.label.1.now, c.in_ok-push_next.ensures (of_hall c.args.family c.args.hall.now) c.in_ok-octets.ensures)
