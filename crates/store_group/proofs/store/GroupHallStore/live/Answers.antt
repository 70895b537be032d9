use Rattle.std.proofs.Common.{refl}
use Rattle.hall_types.specs.Rows.{at}
use Rattle.hall_types.specs.Kinds.{arch_number}
use Rattle.store_group.proofs.ReadLemmas.{read_failed, read_row}
use Rattle.store_group.proofs.store.GroupHallStore.live.Goals as goal

pub returns-in_err-live : goal.returns-in_err-live
returns-in_err-live g c = read_failed g.S.HallStore _ _ refl refl _ _ c.live.ensures _ _ c.from_residual.ensures.0

pub returns : goal.returns
returns g c = read_row g.S.HallStore _ _ refl refl _ (λ h. at h.lives (arch_number c.args.arch)) _ c.in_ok-live.was c.live.ensures _ c.as_led.ensures
