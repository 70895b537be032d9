use Rattle.std.proofs.Common.{refl}
use Rattle.store_group.proofs.GroupLemmas.{begun_by}
use Rattle.store_group.proofs.store.GroupGroupStore.begin.Goals as goal

pub returns : goal.returns
returns g c clean = (clean, begun_by g.S.HallStore _ _ c.if-self.false refl _)
