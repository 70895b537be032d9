use Rattle.std.proofs.Common.{take}
use Rattle.store_memory.specs.{Prelude.Hall, Held.{HaveAllSlots, IsHeld}}
use Rattle.store_memory.proofs.memory.MemoryStore.reserve_all.Given as goal

-- the writes so far have slots, and the rows are as before
abbrev pub invariant-writes : goal.invariant-writes
invariant-writes l = HaveAllSlots (take l.write-index l.writes) l.self × ((h : Hall) → IsHeld l.initial.self h → IsHeld l.self h)
