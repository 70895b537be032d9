use Rattle.std.proofs.Common.{take, sym, subst}
use Rattle.store_memory.{specs.Held.HaveAllSlots, proofs.{SlotLemmas.{slots_kept, slots_last}, VersionLemmas.take_next}}
use Rattle.store_memory.proofs.memory.MemoryStore.reserve_all.Goals as goal

pub writes-preserved : goal.writes-preserved
writes-preserved c =
    let i = c.writes.write-index in
    let ws = c.args.writes.now in
    let item = c.write-item.result in (
      subst (λ xs. HaveAllSlots xs c.reserve.new.self) (sym (take_next ws i item c.writes-test.true c.write-item.is))
          (slots_last (take i ws) item c.reserve.new.self (slots_kept (take i ws) c.writes.self c.reserve.new.self c.reserve.ensures.others c.writes.invariant.0) c.in_ok-reserve.ensures.slots),
      λ h held. c.reserve.ensures.same h (c.writes.invariant.1 h held),
    )
