use Rattle.laws_stores.{specs.Prelude.{AndCutRun, OrUnanswered, OrUnreplied}, proofs.StopLemmas.of_halls}
use Rattle.laws_stores.proofs.stops.stops_leave_ends.Goals as goal

pub returns-clause-answer : goal.returns-clause-answer
returns-clause-answer g c = λ origin past site arrival left db may.
    let found = left.left db may in of_halls db origin (OrUnanswered past site arrival) found.0 left.halls found.1 found.2 left.each

pub returns-clause-run : goal.returns-clause-run
returns-clause-run g c = λ origin past site arrivals answers left db may.
    let found = left.left db may in of_halls db origin (AndCutRun past site arrivals answers) found.0 left.halls found.1 found.2 left.each

pub returns-clause-step : goal.returns-clause-step
returns-clause-step g c = λ origin past site e moment fresh left db may.
    let found = left.left db may in of_halls db origin (OrUnreplied past site e moment fresh) found.0 left.halls found.1 found.2 left.each
