use Rattle.store_memory.proofs.{HeldLemmas.{same_addresses, same_interfaces}, SlotLemmas.slots_interfaces}
use Rattle.store_memory.proofs.memory.MemoryStore.reserve_interface.Goals as goal

pub returns-in_err-reserve-clause-others : goal.returns-in_err-reserve-clause-others
returns-in_err-reserve-clause-others c = let s = c.args.self.now in slots_interfaces s c.reserve.new.table s.addresses c.reserve.ensures.slots (λ mac there. there)

pub returns-in_err-reserve-clause-same : goal.returns-in_err-reserve-clause-same
returns-in_err-reserve-clause-same c = λ h held. same_interfaces c.args.self.now h held c.reserve.new.table c.reserve.ensures.rows

pub returns-clause-others : goal.returns-clause-others
returns-clause-others c = slots_interfaces c.args.self.now c.reserve.new.table c.reserve-2.new.table c.reserve.ensures.slots c.reserve-2.ensures.slots

pub returns-clause-same : goal.returns-clause-same
returns-clause-same c = λ h held.
    let s = c.args.self.now in
    same_addresses (record s { interfaces = c.reserve.new.table }) h (same_interfaces s h held c.reserve.new.table c.reserve.ensures.rows) c.reserve-2.new.table c.reserve-2.ensures.rows
