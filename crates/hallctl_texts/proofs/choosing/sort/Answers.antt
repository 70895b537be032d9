use Rattle.std.proofs.lemmas.List.Sorted.{IsPermutation-map}
use Rattle.serde_json.specs.View.{view}
use Rattle.hallctl_texts.specs.declared.choosing.Keyed.{Keyed}
use Rattle.hallctl_texts.proofs.choosing.sort.Goals as goal

pub returns : goal.returns
returns c = IsPermutation-map (λ (machine : Keyed). view machine.object.now) _ _ c.sort_by.ensures.permutation
