use Rattle.std.{proofs.Common.{◌≡◌, map, string_bytes}, specs.{List.list_all, Map.keys_of}}
use Rattle.hall_http.specs.Body.{texts, is_allowed}
use Rattle.hall_http.proofs.shape.are_allowed.Given as goal

abbrev pub invariant-loop-name : goal.invariant-loop-name
invariant-loop-name l =
    list_all (is_allowed (texts l.common) (texts l.own) (texts l.optional)) (map string_bytes l.name-iterator)
    ≡ list_all (is_allowed (texts l.common) (texts l.own) (texts l.optional)) (map string_bytes (keys_of l.members.entries))
