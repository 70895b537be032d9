use Rattle.std.proofs.Common.{refl}
use Rattle.hall_types.specs.Rows.{at}
use Rattle.store_group.proofs.ReadLemmas.{read_failed, read_row}
use Rattle.store_group.proofs.store.GroupHallStore.boot.Goals as goal

pub returns-in_err-boot : goal.returns-in_err-boot
returns-in_err-boot g c = read_failed g.S.HallStore _ _ refl refl _ _ c.boot.ensures _ _ c.from_residual.ensures.0

pub returns : goal.returns
returns g c = read_row g.S.HallStore _ _ refl refl _ (λ h. at h.boots c.args.number) _ c.in_ok-boot.was c.boot.ensures _ c.as_led.ensures
