use Rattle.std.proofs.Common.{◌∙◌}
use Rattle.store_group.proofs.KeyLemmas.{number_put, number_put_other, number_gone, number_gone_other}
use Rattle.store_group.proofs.keys.NumberKeyedMachine.after.Goals as goal

pub returns-then-eq : goal.returns-then-eq
returns-then-eq c = λ h was. rw c.in-PutMachine.is (number_put h.machines c.in-PutMachine.machine.id _ c.if-eq.ensures _)

pub returns-else-eq : goal.returns-else-eq
returns-else-eq c = λ h was. rw c.in-PutMachine.is (was ∙ number_put_other h.machines c.in-PutMachine.machine.id _ c.if-eq.ensures _)

pub returns-then-eq-2 : goal.returns-then-eq-2
returns-then-eq-2 c = λ h was. rw c.in-MachineGone.is (number_gone h.machines c.in-MachineGone.id _ c.if-eq-2.ensures)

pub returns-else-eq-2 : goal.returns-else-eq-2
returns-else-eq-2 c = λ h was. rw c.in-MachineGone.is (was ∙ number_gone_other h.machines c.in-MachineGone.id _ c.if-eq-2.ensures)
