use Rattle.std.{proofs.Common.{ap, ◌∙◌}, specs.Str.bytes_eq}
use Rattle.store_memory.{specs.Hashed.entry_at, proofs.IndexLemmas.index_is}
use Rattle.store_memory.proofs.memory.MemoryStore.machine_at_uuid.Goals as goal

pub returns : goal.returns
returns c = λ h held.
    c.row.ensures ∙ (ap (entry_at bytes_eq c.args.self.now.uuids) c.octets.ensures.octets ∙ index_is c.args.self.now.uuids h held.keyed.machines held.uuids c.args.uuid)
