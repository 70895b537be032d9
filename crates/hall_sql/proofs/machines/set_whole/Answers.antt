use Rattle.sql_schema.specs.{Words.at, StepLaws.{gives, then}}
use Rattle.std.proofs.Common.{inl, inr, refl, sym, ◌∙◌}
use Rattle.hall_sql.proofs.{GroupLemmas.{counted_moved, counted_same}, MachineLemmas.{puts_whole, there_is, version_is}}
use Rattle.hall_sql.proofs.machines.set_whole.Goals as goal

pub returns-in_ok-move_count-in-Some-clause-written : goal.returns-in_ok-move_count-in-Some-clause-written
returns-in_ok-move_count-in-Some-clause-written g c clean =
    let m = c.args.machine.now in
    let from = c.in-Some.from in
    gives _ c.put_wipe.result
    (then (then (then c.in_ok-found.ensures.found c.set_machine.ensures.survives c.in_ok-set_machine-in-Some.ensures.written) c.move_count.ensures.survives c.in_ok-move_count-in-Some.ensures.written) c.put_wipe.ensures.survives c.put_wipe.ensures.written clean)
    (λ done steps before h held.
    let found = steps.0.0.0 before h held in
    let rows = found.1.hall_rows in
    let agrees = found.1.agrees in
    let was = there_is (at h.machines m.id) from (sym c.in-Some.is ∙ found.0) in
    let set = steps.0.0.1 before rows found.1.within in (
      elim (steps.0.1 before _ set.0) [
        | inl same ↦ puts_whole _ before h rows agrees m _ (counted_same rows.counts h.machines agrees.counts m was.0 was.1 (sym was.2 ∙ same.0)) (steps.1 before _ same.1 tt)
        | inr moved ↦ puts_whole _ before h rows agrees m _ (counted_moved rows.counts h.machines agrees.counts from m was.0 was.1 was.2 _ refl) (steps.1 before _ moved tt)
      ],
      version_is rows h agrees.hall m.id c.args.was set.1,
    ))
