use Rattle.std.{proofs.Common.{◌≡◌, ◌≤◌, drop, take, length, vec_len}, specs.Prelude.vec_capacity}
use Rattle.hall_desk.specs.{Prelude.{Hall, IsSound}, Attempt.ChangeNothing, Desk.{enlists_of, site_of, store_of}, Stops.HasRun}
use Rattle.hall_desk.proofs.desk.Desk.run.Given as goal

-- what was answered so far is a run, and there is room for the rest
abbrev pub invariant-loop-arrival : goal.invariant-loop-arrival
invariant-loop-arrival g l = record {
  clean : g.S.HallStore.is_clean (store_of l.self) → g.S.HallStore.is_clean (store_of l.fn.self);
  site : site_of l.self ≡ site_of l.fn.self;
  enlists : enlists_of l.self ≡ enlists_of l.fn.self;
  ran : g.S.HallStore.is_clean (store_of l.self) → (h : Hall) → g.S.HallStore.holds (store_of l.fn.self) h → IsSound h
      → HasRun g.S.HallStore (store_of l.fn.self) (store_of l.self) (site_of l.fn.self) h (take l.arrival-index l.arrivals) l.answers.items;
  idle : g.S.HallStore.is_clean (store_of l.self) → (h : Hall) → g.S.HallStore.holds (store_of l.fn.self) h → ChangeNothing (site_of l.fn.self) h l.arrivals
      → g.S.HallStore.holds (store_of l.self) h × ChangeNothing (site_of l.fn.self) h (drop l.arrival-index l.arrivals);
  count : vec_len l.answers ≡ l.arrival-index;
  room : length l.arrivals ≤ vec_capacity l.answers;
}
