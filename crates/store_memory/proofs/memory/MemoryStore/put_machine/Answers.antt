use Rattle.std.proofs.Common.{◌+◌, None, is_some, rules, ap, ◌∙◌}
use Rattle.hall_types.specs.Rows.{size}
use Rattle.store_memory.{specs.Prelude.{one_if, put, size-put, PutMachine, lower_earliest, put_earliest}, proofs.{HeldLemmas.{few, same_count}, IndexLemmas.index_put, SlotLemmas.slots_machines, TableLemmas.{by_number, put_row}}}
use Rattle.store_memory.proofs.memory.MemoryStore.put_machine.Goals as goal

pub returns-clause-held : goal.returns-clause-held
returns-clause-held c = λ h held keeps.
    let s = c.args.self.now in
    let m = c.args.machine.now in
    let before = c.machine_row-was.ensures h held in
    let keyed = c.rows_stand_under_their_keys.ensures.written (PutMachine m None) h held.keyed in
    let is = put_row by_number h.machines held.machines m.id m (rw c.get.ensures.number at c.set.ensures.sets) in
    let its = index_put s.uuids c.clear_entry.new.index c.set_entry.new.index h m c.machine_row-was.result held.uuids before
    (rw c.uuid_of.ensures at c.clear_entry.ensures.sets) c.set_entry.ensures.sets keeps.uuid in
    let counted = c.count_after_put-self.ensures (few s h held c.table_is_bounded.ensures.ordered c.table_is_bounded.ensures.small) in
    let size_is = same_count c.count_after_put-self.result s.machine_count (size h.machines) (size (put m.id m h.machines)) (one_if (is_some c.machine_row-was.result)) counted held.count
    (ap (λ o. size (put m.id m h.machines) + one_if (is_some o)) before ∙ size-put h.machines m.id m) in
    let lower = lower_earliest s.earliest h.machines held.earliest c.earliest_after_put-self.result c.earliest_after_put-self.ensures.before in
    let no_earlier = put_earliest c.earliest_after_put-self.result h.machines lower m c.earliest_after_put-self.ensures.own in
    search rules

pub returns-clause-slots : goal.returns-clause-slots
returns-clause-slots c = λ w slot.
    let s = c.args.self.now in
    slots_machines s c.set.new.table c.set_entry.new.index c.count_after_put-self.result c.earliest_after_put-self.result
    c.set.ensures.slots (λ uuid there. c.set_entry.ensures.slots uuid (c.clear_entry.ensures.slots uuid there)) w slot
