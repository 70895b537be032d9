use Rattle.store_memory.proofs.{HeldLemmas.{same_machines, same_uuids}, SlotLemmas.slots_machines}
use Rattle.store_memory.proofs.memory.MemoryStore.reserve_machine.Goals as goal

pub returns-in-Some-clause-others : goal.returns-in-Some-clause-others
returns-in-Some-clause-others c =
    slots_machines c.args.self.now c.reserve.new.table c.reserve-in-Some.new.table c.args.self.now.machine_count c.args.self.now.earliest c.reserve.ensures.slots c.reserve-in-Some.ensures.slots

pub returns-in-Some-clause-same : goal.returns-in-Some-clause-same
returns-in-Some-clause-same c = λ h held.
    same_uuids (record c.args.self.now { machines = c.reserve.new.table }) h (same_machines c.args.self.now h held c.reserve.new.table c.reserve.ensures.rows)
    c.reserve-in-Some.new.table c.reserve-in-Some.ensures.rows
