use Rattle.sql_schema.specs.{Words.at, StepLaws.{gives, then}}
use Rattle.std.proofs.Common.{Ok, sym, ◌∙◌}
use Rattle.hall_sql.proofs.{GroupLemmas.{counted_gone, counted_none}, MachineLemmas.{none_there, there_is}, RemovalLemmas.removes_whole}
use Rattle.hall_sql.proofs.removal.remove_machine.Goals as goal

pub returns-in-Some-clause-written : goal.returns-in-Some-clause-written
returns-in-Some-clause-written g c clean =
    gives _ c.count_down.result
    (then (then c.in_ok-group.ensures.found c.remove_rows.ensures.survives c.in_ok-remove_rows.ensures.written) c.count_down.ensures.survives c.count_down.ensures.written clean)
    (λ done steps before h held.
    let found = steps.0.0 before h held in
    let rows = found.1.hall_rows in
    let was = there_is (at h.machines c.args.id) c.in-Some.group (sym c.in-Some.is ∙ found.0) in
    removes_whole _ before h rows found.1.agrees c.args.id _ (counted_gone rows.counts h.machines found.1.agrees.counts c.in-Some.group c.args.id was.0 was.1 was.2)
    (steps.1 before _ (steps.0.1 before rows found.1.within tt)).0)

pub returns-in-None-clause-written : goal.returns-in-None-clause-written
returns-in-None-clause-written g c clean =
    gives _ (Ok tt)
    (then c.in_ok-group.ensures.found c.remove_rows.ensures.survives c.in_ok-remove_rows.ensures.written clean)
    (λ done steps before h held.
    let found = steps.0 before h held in
    let rows = found.1.hall_rows in
    removes_whole _ before h rows found.1.agrees c.args.id _ (counted_none rows.counts h.machines found.1.agrees.counts c.args.id (none_there (at h.machines c.args.id) (sym c.in-None.is ∙ found.0)))
    (steps.1 before rows found.1.within tt))
