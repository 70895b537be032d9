use Rattle.hall_laws.{specs.{Decision.decision_of, WritesLaws.decision_writes}, proofs.KeepLemmas.decided_keep}
use Rattle.hall_laws.proofs.steps.decisions_keep_the_rules.Goals as goal

pub returns : goal.returns
returns c = λ site h event moment fresh s in_second.
    decided_keep h s event moment fresh (decision_of site h event moment fresh) (decision_writes site h s event moment fresh)
    (c.steps_keep_halls_sound.ensures.rows site h event moment fresh s in_second)
