use Rattle.sql_schema.specs.{Words.{Hall, at}, StepLaws.{gives, then}}
use Rattle.std.proofs.Common.{◌≡◌, None, subst}
use Rattle.hall_sql.proofs.{GroupLemmas.counted_new, MachineLemmas.puts_whole}
use Rattle.hall_sql.proofs.machines.add_whole.Goals as goal

pub returns-clause-written : goal.returns-clause-written
returns-clause-written g c clean =
    let m = c.args.machine.now in
    gives _ c.put_wipe.result
    (then (then c.in_ok-add_machine.ensures.written c.count_up.ensures.survives c.in_ok-count_up.ensures.written) c.put_wipe.ensures.survives c.put_wipe.ensures.written clean)
    (λ done steps before h held.
    let rows = held.hall_rows in
    let added = steps.0.0 before rows held.within in
    let fresh : at h.machines m.id ≡ None = subst (λ (x : Hall). at x.machines m.id ≡ None) held.agrees.hall added.1 in
    (puts_whole _ before h rows held.agrees m _ (counted_new rows.counts h.machines held.agrees.counts m fresh) (steps.1 before _ (steps.0.1 before _ added.0 tt) tt), fresh))
