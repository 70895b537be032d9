use Rattle.std.proofs.Common.{refl}
use Rattle.hall_types.specs.Rows.{at}
use Rattle.store_group.proofs.ReadLemmas.{read_failed, read_row}
use Rattle.store_group.proofs.store.GroupHallStore.operator.Goals as goal

pub returns-in_err-operator : goal.returns-in_err-operator
returns-in_err-operator g c = read_failed g.S.HallStore _ _ refl refl _ _ c.operator.ensures _ _ c.from_residual.ensures.0

pub returns : goal.returns
returns g c = read_row g.S.HallStore _ _ refl refl _ (λ h. at h.operators c.args.name.now) _ c.in_ok-operator.was c.operator.ensures _ c.as_led.ensures
