use Rattle.std.proofs.Common.{◌≡◌, take}
use Rattle.store_memory.specs.{Prelude.{Hall, applied, version_of}, Held.IsHeld}
use Rattle.store_memory.proofs.memory.MemoryStore.version_after_all.Given as goal

abbrev pub invariant-writes : goal.invariant-writes
invariant-writes l = (h : Hall) → IsHeld l.fn.self h → l.version ≡ version_of (applied (take l.write-index l.writes) h) l.id
