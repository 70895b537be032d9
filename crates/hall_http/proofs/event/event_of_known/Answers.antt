use Rattle.hall_http.proofs.ReadingLemmas.{head_fits, event_of_never, event_of_head}
use Rattle.hall_http.proofs.event.event_of_known.Goals as goal

pub suffix-requires : goal.suffix-requires
suffix-requires c = head_fits c.args.octets.now c.in-Found.len c.in-Found.demand (rw c.in-Found.is at c.requires)

pub returns-in-Never : goal.returns-in-Never
returns-in-Never c = event_of_never c.args.octets.now (rw c.in-Never.is at c.requires)

pub returns-in-Found : goal.returns-in-Found
returns-in-Found c =
    event_of_head c.args.octets.now c.in-Found.len c.in-Found.demand c.suffix.result.now c.event_after.result (rw c.in-Found.is at c.requires) c.suffix.ensures c.event_after.ensures
