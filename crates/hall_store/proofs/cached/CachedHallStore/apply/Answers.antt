use Rattle.hall_store.proofs.KeepingLemmas.{written_around}
use Rattle.hall_store.proofs.cached.CachedHallStore.apply.Goals as goal

-- src/cached.rt:158:5
pub returns : goal.returns
returns g c clean =
    let wrote = c.apply-answer.ensures clean in (
      wrote.0,
      written_around g.S.HallStore.holds g.S.HallStore.leaves g.S.HallStore.over _ _ c.args.change.now c.apply-answer.result wrote.1
          c.follow.ensures.after c.follow.ensures.refused c.forget.ensures c.is_ok-self.ensures.value,
    )
