use Rattle.std.proofs.Common.{◌≡◌, ◌++◌, flat_map}
use Rattle.hallview_state.specs.Exposition.{escaped}
use Rattle.hallview_state.proofs.samples.push_escaped.Given as goal

abbrev pub invariant-loop-octet : goal.invariant-loop-octet
invariant-loop-octet l = l.octets.items ≡ l.initial.octets.items ++ flat_map escaped l.yielded
