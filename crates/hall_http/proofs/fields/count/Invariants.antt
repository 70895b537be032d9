use Rattle.std.proofs.Common.{◌≡◌, ◌+◌, ◌≤◌, drop, map}
use Rattle.hall_http.specs.{Prelude.header_bytes, Fields.count}
use Rattle.hall_http.proofs.fields.count.Given as goal

abbrev pub invariant-loop-header : goal.invariant-loop-header
invariant-loop-header l =
    (l.count ≤ l.header-index)
    × (l.count + count l.name (map (header_bytes l.front) (drop l.header-index l.headers))
    ≡ count l.name (map (header_bytes l.front) l.headers))
