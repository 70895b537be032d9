use Rattle.std.proofs.Common.{rules}
use Rattle.serve_sockets.proofs.table.Table.slot_for_new.Goals as goal

pub returns-in-Some-clause-slot : goal.returns-in-Some-clause-slot
returns-in-Some-clause-slot g c = rw (← c.free.ensures) (search rules)
