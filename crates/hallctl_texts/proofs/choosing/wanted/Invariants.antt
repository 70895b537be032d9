use Rattle.std.proofs.Common.{is_some, map, take}
use Rattle.serde_json.specs.View.{view}
use Rattle.hallctl_texts.specs.Choice.{PicksOf, keyed_views}
use Rattle.hallctl_texts.proofs.choosing.wanted.Given as goal

-- what is picked of the objects so far
abbrev pub invariant-loop-object : goal.invariant-loop-object
invariant-loop-object l = PicksOf l.choice.filter (is_some l.search) (map view (take l.object-index l.objects)) (keyed_views l.machines.items)
