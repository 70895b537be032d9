use Rattle.std.proofs.Common.{rules}
use Rattle.store_memory.{specs.Prelude.{arch_number, PutOperator, PutPool, PutMember, PutImage, ImageGone, PutLive, PutBoot, PutOrder, PutReceipt, PutNumbers}, proofs.{SlotLemmas.{slots_members, slots_receipts}, TableLemmas.{by_number, by_pair, by_text, gone_row, put_row}}}
use Rattle.store_memory.proofs.memory.MemoryStore.write.Goals as goal

pub returns-in-PutOperator-clause-held : goal.returns-in-PutOperator-clause-held
returns-in-PutOperator-clause-held c = λ h held keeps.
    let it = c.in-PutOperator.operator in
    let keyed = c.rows_stand_under_their_keys.ensures.written (PutOperator it) h held.keyed in
    let is = put_row by_text h.operators held.operators it.name it c.set.ensures.sets in rw c.in-PutOperator.is (search rules)

pub returns-in-PutPool-clause-held : goal.returns-in-PutPool-clause-held
returns-in-PutPool-clause-held c = λ h held keeps.
    let it = c.in-PutPool.pool in
    let keyed = c.rows_stand_under_their_keys.ensures.written (PutPool it) h held.keyed in
    let is = put_row by_text h.pools held.pools it.name it c.set-in-PutPool.ensures.sets in rw c.in-PutPool.is (search rules)

pub returns-in-PutMember-clause-held : goal.returns-in-PutMember-clause-held
returns-in-PutMember-clause-held c = λ h held keeps.
    let it = c.in-PutMember.member in
    let keyed = c.rows_stand_under_their_keys.ensures.written (PutMember it) h held.keyed in
    let is = put_row by_pair h.members held.members (it.pool, it.operator) it c.set-in-PutMember.ensures.sets in rw c.in-PutMember.is (search rules)

pub returns-in-PutMember-clause-slots : goal.returns-in-PutMember-clause-slots
returns-in-PutMember-clause-slots c = slots_members c.args.self.now c.set-in-PutMember.new.table c.set-in-PutMember.ensures.slots

pub returns-in-PutImage-clause-held : goal.returns-in-PutImage-clause-held
returns-in-PutImage-clause-held c = λ h held keeps.
    let it = c.in-PutImage.image in
    let keyed = c.rows_stand_under_their_keys.ensures.written (PutImage it) h held.keyed in
    let is = put_row by_text h.images held.images it.name it (rw c.name.ensures at c.set-in-PutImage.ensures.sets) in rw c.in-PutImage.is (search rules)

pub returns-in-ImageGone-clause-held : goal.returns-in-ImageGone-clause-held
returns-in-ImageGone-clause-held c = λ h held keeps.
    let name = c.in-ImageGone.name in
    let keyed = c.rows_stand_under_their_keys.ensures.written (ImageGone name) h held.keyed in
    let is = gone_row by_text h.images held.images name c.clear.ensures.sets in rw c.in-ImageGone.is (search rules)

pub returns-in-PutLive-clause-held : goal.returns-in-PutLive-clause-held
returns-in-PutLive-clause-held c = λ h held keeps.
    let it = c.in-PutLive.live in
    let keyed = c.rows_stand_under_their_keys.ensures.written (PutLive it) h held.keyed in
    let is = put_row by_number h.lives held.lives (arch_number it.arch) it (rw c.arch_number.ensures at c.set-in-PutLive.ensures.sets) in rw c.in-PutLive.is (search rules)

pub returns-in-PutBoot-clause-held : goal.returns-in-PutBoot-clause-held
returns-in-PutBoot-clause-held c = λ h held keeps.
    let it = c.in-PutBoot.boot in
    let keyed = c.rows_stand_under_their_keys.ensures.written (PutBoot it) h held.keyed in
    let is = put_row by_number h.boots held.boots it.number it (rw c.get.ensures.number at c.set-in-PutBoot.ensures.sets) in rw c.in-PutBoot.is (search rules)

pub returns-in-PutOrder-clause-held : goal.returns-in-PutOrder-clause-held
returns-in-PutOrder-clause-held c = λ h held keeps.
    let it = c.in-PutOrder.order in
    let keyed = c.rows_stand_under_their_keys.ensures.written (PutOrder it) h held.keyed in
    let is = put_row by_number h.orders held.orders it.number it (rw c.get-in-PutOrder.ensures.number at c.set-in-PutOrder.ensures.sets) in rw c.in-PutOrder.is (search rules)

pub returns-in-PutReceipt-clause-held : goal.returns-in-PutReceipt-clause-held
returns-in-PutReceipt-clause-held c = λ h held keeps.
    let it = c.in-PutReceipt.receipt in
    let keyed = c.rows_stand_under_their_keys.ensures.written (PutReceipt it) h held.keyed in
    let is = put_row by_pair h.receipts held.receipts (it.operator, it.key) it (rw c.octets.ensures.octets at c.set-in-PutReceipt.ensures.sets) in rw c.in-PutReceipt.is (search rules)

pub returns-in-PutReceipt-clause-slots : goal.returns-in-PutReceipt-clause-slots
returns-in-PutReceipt-clause-slots c = slots_receipts c.args.self.now c.set-in-PutReceipt.new.table c.set-in-PutReceipt.ensures.slots

pub returns-in-PutNumbers-clause-held : goal.returns-in-PutNumbers-clause-held
returns-in-PutNumbers-clause-held c = λ h held keeps.
    let keyed = c.rows_stand_under_their_keys.ensures.written (PutNumbers c.in-PutNumbers.numbers) h held.keyed in rw c.in-PutNumbers.is (search rules)
