use Rattle.std.{proofs.Common.◌≡◌, specs.Vec.Iter.into_iter_items}
use Rattle.store_memory.specs.{Prelude.{Hall, applied, AllKeep}, Held.{HaveAllSlots, IsHeld}}
use Rattle.store_memory.proofs.memory.MemoryStore.write_all.Given as goal

-- the writes that are left have slots, and lead from the hall that the store has to the one after all
abbrev pub invariant-writes : goal.invariant-writes
invariant-writes l =
    HaveAllSlots (into_iter_items l.write-iterator) l.self
    × ((h : Hall) → IsHeld l.initial.self h → AllKeep l.fn.writes.items h
    → (g : Hall) × IsHeld l.self g × AllKeep (into_iter_items l.write-iterator) g × (applied (into_iter_items l.write-iterator) g ≡ applied l.fn.writes.items h))
