use Rattle.hall_desk.specs.Desk.{site_of, store_of}
use Rattle.hallboot_tasks.specs.Served.{GoesOn}
use Rattle.serve_sockets.specs.{Service.{desk_of}, Turn.{KeepsDesk}}
use Rattle.hallboot_tasks.proofs.serving.serve_part.Given as goal

-- the hall went on by what came so far
abbrev pub invariant-loop : goal.invariant-loop
invariant-loop g l = record {
  kept : KeepsDesk g.S.HallStore (desk_of l.fn.service) (desk_of l.service);
  goes : g.S.HallStore.is_clean (store_of (desk_of l.service))
      → GoesOn g.S.HallStore (store_of (desk_of l.fn.service)) (store_of (desk_of l.service)) (site_of (desk_of l.fn.service));
}
