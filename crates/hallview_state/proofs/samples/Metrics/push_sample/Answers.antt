use Rattle.std.proofs.Common.{ℕ, List, [], ◌∷◌, sym, subst}
use Rattle.hallview_state.specs.Exposition.{AreLines, with_value}
use Rattle.hallview_state.proofs.samples.Metrics.push_sample.Goals as goal

pub push-requires : goal.push-requires
push-requires c =
    let samples = with_value c.requires.begun.0 c.args.value.now ∷ [] in
    (samples, subst (λ (octets : List ℕ). AreLines octets samples) (sym c.as_slice.ensures.value) (c.in_ok-push_value.ensures c.requires.begun.0 c.requires.begun.1))
