use Rattle.std.proofs.Common.{ℕ, List, OnOk, rules, sym, subst, ◌∙◌}
use Rattle.store_memory.{specs.{Held.{HasSlots, pair_cmp}, Table.HasSlot}, proofs.SlotLemmas.{slots_members, slots_receipts}}
use Rattle.store_memory.proofs.memory.MemoryStore.reserve.Goals as goal

pub returns-in-PutOperator-clause-same : goal.returns-in-PutOperator-clause-same
returns-in-PutOperator-clause-same c = λ h held. let is = λ (key : List ℕ). c.reserve.ensures.rows key ∙ held.operators key in search rules

pub returns-in-PutPool-clause-same : goal.returns-in-PutPool-clause-same
returns-in-PutPool-clause-same c = λ h held. let is = λ (key : List ℕ). c.reserve-in-PutPool.ensures.rows key ∙ held.pools key in search rules

pub returns-in-PutMember-clause-others : goal.returns-in-PutMember-clause-others
returns-in-PutMember-clause-others c = slots_members c.args.self.now c.reserve-in-PutMember.new.table c.reserve-in-PutMember.ensures.slots

pub returns-in-PutMember-clause-same : goal.returns-in-PutMember-clause-same
returns-in-PutMember-clause-same c = λ h held. let is = λ (key : List ℕ × List ℕ). c.reserve-in-PutMember.ensures.rows key ∙ held.members key in search rules

pub returns-in-PutImage-clause-same : goal.returns-in-PutImage-clause-same
returns-in-PutImage-clause-same c = λ h held. let is = λ (key : List ℕ). c.reserve-in-PutImage.ensures.rows key ∙ held.images key in search rules

pub returns-in-PutReceipt-clause-slots : goal.returns-in-PutReceipt-clause-slots
returns-in-PutReceipt-clause-slots c =
    subst (λ w. OnOk c.reserve-in-PutReceipt.result (HasSlots w (record c.args.self.now { receipts = c.reserve-in-PutReceipt.new.table }))) (sym c.in-PutReceipt.is)
    (subst (λ octets. OnOk c.reserve-in-PutReceipt.result (HasSlot pair_cmp c.reserve-in-PutReceipt.new.table (c.in-PutReceipt.receipt.operator, octets))) c.octets.ensures.octets c.reserve-in-PutReceipt.ensures.slot)

pub returns-in-PutReceipt-clause-others : goal.returns-in-PutReceipt-clause-others
returns-in-PutReceipt-clause-others c = slots_receipts c.args.self.now c.reserve-in-PutReceipt.new.table c.reserve-in-PutReceipt.ensures.slots

pub returns-in-PutReceipt-clause-same : goal.returns-in-PutReceipt-clause-same
returns-in-PutReceipt-clause-same c = λ h held. let is = λ (key : List ℕ × List ℕ). c.reserve-in-PutReceipt.ensures.rows key ∙ held.receipts key in search rules
