use Rattle.std.proofs.Common.{◌≡◌, drop}
use Rattle.hall_http.specs.Body.{texts, is_among}
use Rattle.hall_http.proofs.shape.is_among.Given as goal

abbrev pub invariant-loop-one : goal.invariant-loop-one
invariant-loop-one l = is_among (texts (drop l.one-index l.names)) l.name ≡ is_among (texts l.names) l.name
