use Rattle.std.proofs.Common.{◌+◌, ◌==◌, is_some, rules, ap, ◌∙◌}
use Rattle.hall_types.specs.Rows.{size}
use Rattle.store_memory.{specs.Prelude.{gone, one_if, size-gone, MachineGone, gone_earliest}, proofs.{HeldLemmas.one_less, IndexLemmas.index_gone, SlotLemmas.{slots_boots, slots_interfaces, slots_machines, slots_orders}, TableLemmas.{by_hash, by_number, by_text, gone_row, where_rows}}}
use Rattle.store_memory.proofs.memory.MemoryStore.clear_machine.Goals as goal

pub returns-clause-held : goal.returns-clause-held
returns-clause-held c = λ h held.
    let s = c.args.self.now in
    let id = c.args.id in
    let before = c.machine_row-was.ensures h held in
    let keyed = c.rows_stand_under_their_keys.ensures.written (MachineGone id) h held.keyed in
    let is = gone_row by_number h.machines held.machines id (rw c.get.ensures.number at c.clear.ensures.sets) in
    let interfaces_are = where_rows by_text h.interfaces (λ i. i.machine == id) held.interfaces c.clear_machine-2.ensures.clears in
    let found = where_rows by_hash h.interfaces (λ i. i.machine == id) held.addresses c.clear_machine.ensures.clears in
    let boots_are = where_rows by_number h.boots (λ b. b.machine == id) held.boots c.clear_machine-3.ensures.clears in
    let orders_are = where_rows by_number h.orders (λ o. o.machine == id) held.orders c.clear_machine-4.ensures.clears in
    let its = index_gone s.uuids c.clear_entry.new.index h id c.machine_row-was.result held.uuids before (rw c.uuid_of.ensures at c.clear_entry.ensures.sets) in
    let size_is = one_less c.count_after_gone-self.result s.machine_count (size h.machines) (size (gone id h.machines)) (one_if (is_some c.machine_row-was.result)) c.count_after_gone-self.ensures held.count
    (ap (λ o. size (gone id h.machines) + one_if (is_some o)) before ∙ size-gone h.machines id) in
    let no_earlier = gone_earliest s.earliest h.machines held.earliest id in
    search rules

pub returns-clause-slots : goal.returns-clause-slots
returns-clause-slots c = λ w slot.
    let s = c.args.self.now in
    let machines = record s { machines = c.clear.new.table; uuids = c.clear_entry.new.index; machine_count = c.count_after_gone-self.result } in
    let interfaces = record machines { interfaces = c.clear_machine-2.new.table; addresses = c.clear_machine.new.table } in
    let boots = record interfaces { boots = c.clear_machine-3.new.table } in
    slots_orders boots c.clear_machine-4.new.table c.clear_machine-4.ensures.slots w
    (slots_boots interfaces c.clear_machine-3.new.table c.clear_machine-3.ensures.slots w
    (slots_interfaces machines c.clear_machine-2.new.table c.clear_machine.new.table c.clear_machine-2.ensures.slots c.clear_machine.ensures.slots w
    (slots_machines s c.clear.new.table c.clear_entry.new.index c.count_after_gone-self.result s.earliest c.clear.ensures.slots c.clear_entry.ensures.slots w slot)))
