use Rattle.std.proofs.Common.{sym, ◌∙◌}
use Rattle.store_group.proofs.KeyLemmas.{goes_with, number_put, number_put_other, stays_without}
use Rattle.store_group.proofs.keys.NumberKeyedBoot.after.Goals as goal

pub returns-then-eq : goal.returns-then-eq
returns-then-eq c = λ h was. rw c.in-PutBoot.is (number_put h.boots c.in-PutBoot.boot.number _ c.if-eq.ensures _)

pub returns-else-eq : goal.returns-else-eq
returns-else-eq c = λ h was. rw c.in-PutBoot.is (was ∙ number_put_other h.boots c.in-PutBoot.boot.number _ c.if-eq.ensures _)

pub returns-then-is_boot_of : goal.returns-then-is_boot_of
returns-then-is_boot_of c = λ h was. rw c.in-MachineGone.is (goes_with (λ x. x.machine) c.in-MachineGone.id h.boots _ _ was (sym c.if-is_boot_of.ensures))

pub returns-else-is_boot_of : goal.returns-else-is_boot_of
returns-else-is_boot_of c = λ h was. rw c.in-MachineGone.is (stays_without (λ x. x.machine) c.in-MachineGone.id h.boots _ _ was (sym c.if-is_boot_of.ensures))
