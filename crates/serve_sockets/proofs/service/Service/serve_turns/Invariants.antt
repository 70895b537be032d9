use Rattle.std.proofs.Common.{◌*◌}
use Rattle.serve_sockets.specs.{Prelude.{site_of, store_of}, Service.{connections_of, desk_of}, Turn.{AreServed, KeepsDesk}}
use Rattle.serve_sockets.proofs.service.Service.serve_turns.Given as goal

-- at most a whole group was handed over at each turn
abbrev pub invariant-loop-served : goal.invariant-loop-served
invariant-loop-served g l = record {
  kept : KeepsDesk g.S.HallStore (desk_of l.fn.self) (desk_of l.self);
  served : g.S.HallStore.is_clean (store_of (desk_of l.self)) → AreServed g.S.HallStore g.C.Source.may_give
      (store_of (desk_of l.fn.self)) (store_of (desk_of l.self)) l.fn.source l.source (site_of (desk_of l.fn.self)) (64 * l.served) (connections_of l.fn.self) (connections_of l.self);
}
