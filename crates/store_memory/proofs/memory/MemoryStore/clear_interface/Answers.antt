use Rattle.std.proofs.Common.{rules}
use Rattle.store_memory.{specs.Prelude.InterfaceGone, proofs.{SlotLemmas.slots_interfaces, TableLemmas.{by_hash, by_text, gone_row}}}
use Rattle.store_memory.proofs.memory.MemoryStore.clear_interface.Goals as goal

pub returns-clause-held : goal.returns-clause-held
returns-clause-held c = λ h held.
    let mac = c.args.mac in
    let keyed = c.rows_stand_under_their_keys.ensures.written (InterfaceGone mac) h held.keyed in
    let is = gone_row by_text h.interfaces held.interfaces mac (rw c.octets-mac.ensures.octets at c.clear-2.ensures.sets) in
    let are = gone_row by_hash h.interfaces held.addresses mac (rw c.octets-mac.ensures.octets at c.clear.ensures.sets) in search rules

pub returns-clause-slots : goal.returns-clause-slots
returns-clause-slots c = slots_interfaces c.args.self.now c.clear-2.new.table c.clear.new.table c.clear-2.ensures.slots c.clear.ensures.slots
