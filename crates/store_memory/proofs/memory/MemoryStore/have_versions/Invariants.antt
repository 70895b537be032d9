use Rattle.std.proofs.Common.{take}
use Rattle.store_memory.specs.{Prelude.{Hall, HaveVersions}, Held.IsHeld}
use Rattle.store_memory.proofs.memory.MemoryStore.have_versions.Given as goal

-- the writes so far have their versions
abbrev pub invariant-writes : goal.invariant-writes
invariant-writes l = (h : Hall) → IsHeld l.self h → HaveVersions (take l.i l.writes) h
