use Rattle.sql_schema.specs.StepLaws.{fails, gives, then}
use Rattle.sql_schema.proofs.writing.put.Goals as goal

pub returns-in-Ok-true-clause-written : goal.returns-in-Ok-true-clause-written
returns-in-Ok-true-clause-written g c clean makes it =
    let set = c.in-Ok-true.ensures.written clean c.args.add.now makes it in
    record { gives = λ before rows held may. (rw c.in-Ok-true.field-0-test at set.gives) before rows held; mode = set.mode; kept = set.kept }

pub returns-in-Ok-false-clause-written : goal.returns-in-Ok-false-clause-written
returns-in-Ok-false-clause-written g c clean makes it =
    gives _ c.write.result (then (λ mid. c.in-Ok-false.ensures.written mid c.args.add.now makes it) c.write.ensures.survives c.write.ensures.written clean)
    (λ done both before rows held may.
    let absent = rw c.in-Ok-false.field-0-test at both.0 before rows held in
    both.1 before rows (makes rows) absent.1 absent.0)

pub returns-in-Err-clause-written : goal.returns-in-Err-clause-written
returns-in-Err-clause-written g c clean makes it = fails _ _ _ (c.in-Err.ensures.written clean c.args.add.now makes it)
