use Rattle.std.proofs.Common.{refl}
use Rattle.hall_types.specs.Rows.{at}
use Rattle.store_group.proofs.ReadLemmas.{read_failed, read_row}
use Rattle.store_group.proofs.store.GroupHallStore.pool.Goals as goal

pub returns-in_err-pool : goal.returns-in_err-pool
returns-in_err-pool g c = read_failed g.S.HallStore _ _ refl refl _ _ c.pool.ensures _ _ c.from_residual.ensures.0

pub returns : goal.returns
returns g c = read_row g.S.HallStore _ _ refl refl _ (λ h. at h.pools c.args.name.now) _ c.in_ok-pool.was c.pool.ensures _ c.as_led.ensures
