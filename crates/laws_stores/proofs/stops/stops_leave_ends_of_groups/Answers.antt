use Rattle.laws_stores.{specs.Prelude.{AndCutRun, OrTogether}, proofs.StopLemmas.of_halls}
use Rattle.laws_stores.proofs.stops.stops_leave_ends_of_groups.Goals as goal

pub returns-clause-together : goal.returns-clause-together
returns-clause-together g c = λ closed origin past site arrivals left db may.
    let found = left.left closed db may in of_halls db origin (OrTogether past site arrivals) found.0 left.halls found.1 found.2 left.each

pub returns-clause-run : goal.returns-clause-run
returns-clause-run g c = λ closed origin past site arrivals answers left db may.
    let found = left.left closed db may in of_halls db origin (AndCutRun past site arrivals answers) found.0 left.halls found.1 found.2 left.each
