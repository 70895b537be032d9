use Rattle.std.proofs.Common.{◌∙◌, List, Bool, subst, sym, ap, map}
use Rattle.serde_json.specs.{View.{view}}
use Rattle.hallctl_texts.specs.{Choice.{AreInOrder, PicksOf, keyed_views}, declared.choosing.Keyed.{Keyed}}
use Rattle.hallctl_texts.proofs.choosing.found.Goals as goal

pub returns-clause-chosen : goal.returns-clause-chosen
returns-clause-chosen c searches =
    record {
      objects = map view c.in_ok-objects.field-0.now;
      picked = keyed_views c.in_ok-machines.machines.items;
      is_list = c.in_ok-objects.ensures;
      is_picked = subst (λ (searches : Bool). PicksOf c.args.choice.now.filter searches (map view c.in_ok-objects.field-0.now) (keyed_views c.in_ok-machines.machines.items))
          searches c.in_ok-machines.ensures.picks;
      is_in_order = subst (AreInOrder c.args.choice.now.sort (keyed_views c.in_ok-machines.machines.items))
          (sym (c.in_ok-objects_of.ensures ∙ ap (λ (machines : List Keyed). keyed_views machines) c.as_slice.ensures.value)) c.put_in_order.ensures;
    }
