use Rattle.std.{proofs.Common.{◌≡◌, ◌+◌, List, ◌++◌, length}}
use Rattle.serve_sockets.specs.{Gathering.{AreBack, OthersStay}, Service.{connections_of, desk_of}, declared.gathering.Client.Client}
use Rattle.serve_sockets.proofs.service.Service.put_all_back.Given as goal

-- the last clients are back, and the slots of others are as they were
abbrev pub invariant-clients : goal.invariant-clients
invariant-clients g l = record {
  desk : desk_of l.self ≡ desk_of l.fn.self;
  back : (back : List Client) × (l.fn.clients.items ≡ l.clients.items ++ back) × AreBack (connections_of l.self) back × OthersStay back (connections_of l.fn.self) (connections_of l.self);
  count : length l.clients.items + l.index ≡ length l.fn.clients.items;
}
