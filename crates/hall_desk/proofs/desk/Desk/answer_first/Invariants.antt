use Rattle.std.{proofs.Common.{◌≡◌, ◌≤◌, Option, take, length, vec_len}, specs.Prelude.vec_capacity}
use Rattle.hall_store.specs.Store.{Base}
use Rattle.hall_desk.specs.{Prelude.{Hall, IsSound}, Attempt.IsRan, Desk.{enlists_of, site_of, store_of}, Grouping.{AreAvailable, AreReadAs}}
use Rattle.hall_desk.proofs.desk.Desk.answer_first.Given as goal

-- what was answered so far is a run, and there is room for the rest
abbrev pub invariant-arrivals : goal.invariant-arrivals
invariant-arrivals g l = record {
  clean : g.S.HallStore.is_clean (store_of l.self) → g.S.HallStore.is_clean (store_of l.fn.self);
  site : site_of l.self ≡ site_of l.fn.self;
  enlists : enlists_of l.self ≡ enlists_of l.fn.self;
  base : g.S.HallStore.is_clean (store_of l.self) → (base : Option Base) → g.S.HallStore.over (store_of l.fn.self) base → g.S.HallStore.over (store_of l.self) base;
  ran : g.S.HallStore.is_clean (store_of l.self) → (h : Hall) → g.S.HallStore.holds (store_of l.fn.self) h → IsSound h
      → IsRan g.S.HallStore (store_of l.self) (site_of l.fn.self) h (take l.arrival-index l.arrivals) l.answers.items;
  read : AreReadAs (take l.arrival-index l.arrivals) l.accounts.items;
  answered : AreAvailable l.answers.items;
  count : vec_len l.answers ≡ l.arrival-index;
  counted : vec_len l.accounts ≡ l.arrival-index;
  room : length l.arrivals ≤ vec_capacity l.answers;
  rooms : length l.arrivals ≤ vec_capacity l.accounts;
}
