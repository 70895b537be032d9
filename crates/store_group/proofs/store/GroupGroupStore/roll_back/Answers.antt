use Rattle.std.proofs.Common.{refl}
use Rattle.store_group.proofs.GroupLemmas.{rolled_back}
use Rattle.store_group.proofs.store.GroupGroupStore.roll_back.Goals as goal

pub returns : goal.returns
returns g c clean = (clean, rolled_back g.S.HallStore _ _ c.clear.ensures.items refl refl)
