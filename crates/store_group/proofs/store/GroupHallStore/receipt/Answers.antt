use Rattle.std.proofs.Common.{refl}
use Rattle.hall_types.specs.Rows.{at}
use Rattle.hall_types.specs.Hall.{pair}
use Rattle.store_group.proofs.ReadLemmas.{read_failed, read_row}
use Rattle.store_group.proofs.store.GroupHallStore.receipt.Goals as goal

pub returns-in_err-receipt : goal.returns-in_err-receipt
returns-in_err-receipt g c = read_failed g.S.HallStore _ _ refl refl _ _ c.receipt.ensures _ _ c.from_residual.ensures.0

pub returns : goal.returns
returns g c = read_row g.S.HallStore _ _ refl refl _ (λ h. at h.receipts (pair c.args.operator.now c.args.key)) _ c.in_ok-receipt.was c.receipt.ensures _ c.as_led.ensures
