use Rattle.std.proofs.Common.{refl}
use Rattle.hall_types.specs.Rows.{at}
use Rattle.store_group.proofs.ReadLemmas.{read_failed, read_row}
use Rattle.store_group.proofs.store.GroupHallStore.order.Goals as goal

pub returns-in_err-order : goal.returns-in_err-order
returns-in_err-order g c = read_failed g.S.HallStore _ _ refl refl _ _ c.order.ensures _ _ c.from_residual.ensures.0

pub returns : goal.returns
returns g c = read_row g.S.HallStore _ _ refl refl _ (λ h. at h.orders c.args.number) _ c.in_ok-order.was c.order.ensures _ c.as_led.ensures
