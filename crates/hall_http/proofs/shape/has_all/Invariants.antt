use Rattle.std.proofs.Common.{◌≡◌, drop}
use Rattle.hall_http.specs.{Prelude.view, Body.{texts, has_all}}
use Rattle.hall_http.proofs.shape.has_all.Given as goal

abbrev pub invariant-loop-name : goal.invariant-loop-name
invariant-loop-name l = has_all (texts (drop l.name-index l.names)) (view l.json) ≡ has_all (texts l.names) (view l.json)
