use Rattle.std.proofs.Common.{rules}
use Rattle.store_memory.{specs.Prelude.PutInterface, proofs.{SlotLemmas.slots_interfaces, TableLemmas.{by_hash, by_text, put_row}}}
use Rattle.store_memory.proofs.memory.MemoryStore.put_interface.Goals as goal

pub returns-clause-held : goal.returns-clause-held
returns-clause-held c = λ h held.
    let i = c.args.interface.now in
    let keyed = c.rows_stand_under_their_keys.ensures.written (PutInterface i) h held.keyed in
    let is = put_row by_text h.interfaces held.interfaces i.mac i (rw c.octets-mac.ensures.octets at c.set-2.ensures.sets) in
    let are = put_row by_hash h.interfaces held.addresses i.mac i (rw c.octets-mac.ensures.octets at c.set.ensures.sets) in search rules

pub returns-clause-slots : goal.returns-clause-slots
returns-clause-slots c = slots_interfaces c.args.self.now c.set-2.new.table c.set.new.table c.set-2.ensures.slots c.set.ensures.slots
