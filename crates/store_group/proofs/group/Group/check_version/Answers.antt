use Rattle.std.proofs.Common.{refl, rules, sym, ap, ◌∙◌}
use Rattle.hall_types.specs.Rows.{at}
use Rattle.store_group.proofs.ReadLemmas.{look_by, look_failed}
use Rattle.store_group.proofs.group.Group.check_version.Goals as goal

pub returns-in_err-row-clause-checked : goal.returns-in_err-row-clause-checked
returns-in_err-row-clause-checked g c = look_failed g.S.HallStore _ _ refl refl _ _ c.machine.ensures _ _ c.from_residual.ensures.0

pub returns-in_err-held-clause-checked : goal.returns-in_err-held-clause-checked
returns-in_err-held-clause-checked g c = look_failed g.S.HallStore _ _ refl refl _ _ c.machine.ensures _ _ c.from_residual-in_err-held.ensures.0

pub returns-in_err-now-clause-checked : goal.returns-in_err-now-clause-checked
returns-in_err-now-clause-checked g c = look_failed g.S.HallStore _ _ refl refl _ _ c.machine.ensures _ _ c.from_residual-in_err-now.ensures.0

pub returns-then-eq-clause-checked : goal.returns-then-eq-clause-checked
returns-then-eq-clause-checked g c =
    look_by g.S.HallStore _ _ refl refl _ _ c.machine.ensures _ _ (λ it h leads.
    let row = rw c.in_ok-row.was at it.answer leads.from leads.held in
    let held = c.in_ok-held.ensures leads.from row ∙ ap (λ k. at k.machines c.in-PutMachine.machine.id) (sym leads.led) in
    let now = c.in_ok-now.ensures h held in
    rw c.in-PutMachine.is (search rules))

pub returns-else-eq-clause-checked : goal.returns-else-eq-clause-checked
returns-else-eq-clause-checked g c = look_failed g.S.HallStore _ _ refl refl _ _ c.machine.ensures _ _ refl
