use Rattle.std.proofs.Common.{◌<◌, List, Option, length, subst}
use Rattle.serve_sockets.specs.{Yielding.Goes, declared.connection.Connection.Connection}
use Rattle.serve_sockets.proofs.table.Table.yielding.Goals as goal

pub yielding-requires-clause-some : goal.yielding-requires-clause-some
yielding-requires-clause-some g c = rw c.as_slice.ensures.len c.args.self.now.some

pub yielding-requires-clause-few : goal.yielding-requires-clause-few
yielding-requires-clause-few g c = rw c.as_slice.ensures.len c.args.self.now.few

pub returns-clause-within : goal.returns-clause-within
returns-clause-within g c =
    subst (λ (slots : List (Option (Connection g.row.T.Denot))). c.yielding.result < length slots) c.as_slice.ensures.value c.yielding.ensures.within

pub returns-clause-goes : goal.returns-clause-goes
returns-clause-goes g c =
    subst (λ (slots : List (Option (Connection g.row.T.Denot))). Goes slots c.yielding.result) c.as_slice.ensures.value c.yielding.ensures.goes
