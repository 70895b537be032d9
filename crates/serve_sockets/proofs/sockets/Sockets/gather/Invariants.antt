use Rattle.std.{proofs.Common.{◌≤◌}, specs.{Prelude.vec_capacity, VecDeque.{deque_capacity}}}
use Rattle.serve_sockets.specs.{Gathering.IsGathered, Own.IsPart, Sockets.slots_in}
use Rattle.serve_sockets.proofs.sockets.Sockets.gather.Given as goal

-- at most as many were gathered as were looked at, and there is room for the rest
abbrev pub invariant-few : goal.invariant-few
invariant-few g l = record {
  gathered : IsGathered g.C.Source.may_give l.fn.source l.source (slots_in l.fn.self) (slots_in l.self) l.index l.gathered;
  part : IsPart (slots_in l.fn.self) (slots_in l.self);
  room : l.few ≤ vec_capacity l.gathered.arrivals;
  seats : l.few ≤ deque_capacity l.gathered.clients;
}
