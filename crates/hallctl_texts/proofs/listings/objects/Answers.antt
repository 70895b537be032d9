use Rattle.std.proofs.Common.{List, Some, ◌∙◌, ap, sym, map, option_map}
use Rattle.serde_json.specs.{View.{view}, declared.value.Value.{Value}}
use Rattle.hallctl_texts.{specs.Members.{values}, proofs.PickLemmas.{values_again}}
use Rattle.hallctl_texts.proofs.listings.objects.Goals as goal

pub returns-in-Some : goal.returns-in-Some
returns-in-Some c =
    sym (ap (option_map values) c.in-Some.ensures) ∙ ap (λ (l : List _). Some l) (values_again (map view c.in-Some.list.now.items))
    ∙ ap (λ (l : List Value). Some (map view l)) (sym c.as_slice.ensures.value)
