use Rattle.std.proofs.Common.{◌∙◌}
use Rattle.store_memory.proofs.memory.MemoryStore.member_row.Goals as goal

pub returns : goal.returns
returns c = λ h held. c.row.ensures ∙ held.members (c.args.pool.now, c.args.operator.now)
