use Rattle.std.{proofs.Common.{◌≡◌, List, ◌++◌, length}, specs.Vec.Iter.{into_iter_items, into_iter_len}}
use Rattle.serve_sockets.specs.{Gathering.{AreHeld, OthersStay}, Service.{connections_of, desk_of}, declared.gathering.Client.Client}
use Rattle.serve_sockets.proofs.service.Service.give_first.Given as goal

-- the first clients have their answers, and the slots of others are as they were
abbrev pub invariant-answers : goal.invariant-answers
invariant-answers g l = record {
  desk : desk_of l.self ≡ desk_of l.fn.self;
  rest : l.yielded ++ into_iter_items l.answer-iterator ≡ l.fn.answered.answers.items;
  left : into_iter_len l.answer-iterator ≡ length (into_iter_items l.answer-iterator);
  done : (done : List Client) × (l.fn.gathered.clients.items ≡ done ++ l.clients.items) × AreHeld (connections_of l.self) done l.yielded × OthersStay done (connections_of l.fn.self) (connections_of l.self);
}
