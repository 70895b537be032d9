use Rattle.std.proofs.Common.{refl}
use Rattle.store_group.proofs.ReadLemmas.{read_alone}
use Rattle.store_group.proofs.store.GroupHallStore.by_uuid.Goals as goal

pub returns : goal.returns
returns g c = read_alone g.S.HallStore _ _ refl refl _ _ c.in_ok-none_held.ensures c.by_uuid.ensures
