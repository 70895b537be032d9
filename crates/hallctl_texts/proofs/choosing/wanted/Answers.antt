use Rattle.std.proofs.{Common.{◌∙◌, List, ap, subst, map, is_some, Vec, Global}, lemmas.List.{take_all}}
use Rattle.serde_json.specs.{View.{view}, declared.value.Value.{Value}}
use Rattle.hallctl_texts.specs.{Choice.{PicksOf, keyed_views, nothing}, declared.choosing.Keyed.{Keyed}}
use Rattle.hallctl_texts.proofs.PickLemmas.{fault_says, leaves_more, says_none, takes_more}
use Rattle.hallctl_texts.proofs.choosing.wanted.Goals as goal
use Rattle.hallctl_texts.proofs.choosing.wanted.Goals.{then-branch+in_ok-key+in_ok-push, else-branch}

pub loop-object-init : goal.loop-object-init
loop-object-init c = rw c.new-machines.ensures.items nothing

pub returns-in_err-is_wanted-clause-fault : goal.returns-in_err-is_wanted-clause-fault
returns-in_err-is_wanted-clause-fault c =
    fault_says c.from_residual.result
    (λ fault no_search no_sort no_memory. says_none _ _ _ c.loop-object-test.true c.object-item.is (c.in_err-is_wanted.ensures.fault no_search))

pub loop-object-preserved : goal.loop-object-preserved
loop-object-preserved c =
    elim c.if-branch.branch [
      | then-branch+in_ok-key+in_ok-push w ↦ takes_more _ _ _ _ _ c.loop-object-test.true c.object-item.is c.loop-object.invariant (rw w.if-branch.true at c.in_ok-is_wanted.ensures.wanted)
          (ap (λ (machines : Vec Keyed Global). keyed_views machines.items) w.machines-is ∙ w.in_ok-push.ensures)
      | else-branch w ↦ leaves_more _ _ _ _ _ c.loop-object-test.true c.object-item.is c.loop-object.invariant (rw w.if-branch.false at c.in_ok-is_wanted.ensures.wanted)
          (ap (λ (machines : Vec Keyed Global). keyed_views machines.items) w.machines-is)
    ]

pub returns-clause-picks : goal.returns-clause-picks
returns-clause-picks c =
    subst (λ (objects : List Value). PicksOf c.args.choice.now.filter (is_some c.args.search) (map view objects) (keyed_views c.loop-object.machines.items))
    (take_all _ _ c.loop-object-test.false) c.loop-object.invariant
