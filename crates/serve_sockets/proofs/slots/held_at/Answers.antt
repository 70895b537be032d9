use Rattle.serve_sockets.proofs.TableLemmas.{copied_at}
use Rattle.serve_sockets.proofs.slots.held_at.Goals as goal

pub returns : goal.returns
returns g c = copied_at c.args.slots.now c.args.slot c.get.result c.get.ensures.lookup.0 c.get.ensures.lookup.1
