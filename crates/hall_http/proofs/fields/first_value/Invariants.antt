use Rattle.std.proofs.Common.{◌≡◌, drop, map}
use Rattle.hall_http.specs.{Prelude.header_bytes, Fields.first_value}
use Rattle.hall_http.proofs.fields.first_value.Given as goal

abbrev pub invariant-loop-header : goal.invariant-loop-header
invariant-loop-header l =
    first_value l.name (map (header_bytes l.front) (drop l.header-index l.headers))
    ≡ first_value l.name (map (header_bytes l.front) l.headers)
