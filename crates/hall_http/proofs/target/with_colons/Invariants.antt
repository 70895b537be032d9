use Rattle.std.proofs.Common.{◌≡◌, ◌++◌, length}
use Rattle.hall_http.specs.Target.{with_colons}
use Rattle.hall_http.proofs.target.with_colons.Given as goal

abbrev pub invariant-loop-rest : goal.invariant-loop-rest
invariant-loop-rest l = l.octets.items ++ with_colons l.rest ≡ with_colons l.text

abbrev pub decreases-loop-rest : goal.decreases-loop-rest
decreases-loop-rest l = length l.rest
