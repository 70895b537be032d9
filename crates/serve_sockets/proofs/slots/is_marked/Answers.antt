use Rattle.serve_sockets.proofs.TableLemmas.{marked_at}
use Rattle.serve_sockets.proofs.slots.is_marked.Goals as goal

pub returns : goal.returns
returns c =
    marked_at c.args.marks.now c.args.slot c.get.result c.copied.result c.unwrap_or.result c.get.ensures.lookup.0 c.get.ensures.lookup.1 c.copied.ensures c.unwrap_or.ensures
