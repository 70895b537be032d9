use Rattle.std.proofs.Common.{take}
use Rattle.std.specs.List.{All}
use Rattle.desk_adoption.specs.{Prelude.{Hall}, Adoption.{IsAdopted}}
use Rattle.desk_adoption.proofs.checking.are_adopted.Given as goal

-- the servers so far are adopted
abbrev pub invariant-loop-server : goal.invariant-loop-server
invariant-loop-server g l = record {
  clean : g.S.HallStore.is_clean l.store → g.S.HallStore.is_clean l.fn.store;
  same : g.S.HallStore.is_clean l.store → (h : Hall) → g.S.HallStore.holds l.fn.store h → g.S.HallStore.holds l.store h;
  are : g.S.HallStore.is_clean l.store → (h : Hall) → g.S.HallStore.holds l.fn.store h → All (IsAdopted l.owner h) (take l.server-index l.servers);
}
