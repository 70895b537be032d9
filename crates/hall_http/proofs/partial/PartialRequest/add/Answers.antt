use Rattle.hall_http.specs.Reading.{IsKnownIfAny}
use Rattle.hall_http.proofs.ReadingLemmas.{known_stays, known_if_any_stays}
use Rattle.hall_http.proofs.partial.PartialRequest.add.Goals as goal

pub is_decided-requires : goal.is_decided-requires
is_decided-requires c =
    let known : IsKnownIfAny c.self.inside.octets.items c.self.inside.known = c.self.invariant in
    rw (c.as_slice.ensures.value, c.in_ok-extend_from_slice.ensures.items)
    (known_stays c.in-Some.known c.self.inside.octets.items c.args.more.now (rw c.in-Some.is at known))

pub invariant_of-self-in-Some : goal.invariant_of-self-in-Some
invariant_of-self-in-Some c =
    rw c.in_ok-extend_from_slice.ensures.items
    (known_if_any_stays c.self.inside.known c.self.inside.octets.items c.args.more.now c.self.invariant)
