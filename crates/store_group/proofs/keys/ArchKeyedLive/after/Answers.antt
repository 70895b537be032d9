use Rattle.hall_types.specs.Kinds.{arch_number}
use Rattle.std.proofs.Common.{sym, ◌∙◌}
use Rattle.store_group.proofs.KeyLemmas.{put_here, put_apart}
use Rattle.store_group.proofs.keys.ArchKeyedLive.after.Goals as goal

pub returns-then-arch_number : goal.returns-then-arch_number
returns-then-arch_number c = λ h was. rw c.in-PutLive.is (put_here h.lives (arch_number c.in-PutLive.live.arch) _ (sym c.arch_number.ensures ∙ c.if-arch_number.true ∙ c.arch_number-in-PutLive.ensures) _)

pub returns-else-arch_number : goal.returns-else-arch_number
returns-else-arch_number c = λ h was. rw c.in-PutLive.is (was ∙ put_apart h.lives (arch_number c.in-PutLive.live.arch) _ (λ same. c.if-arch_number.false (c.arch_number.ensures ∙ sym same ∙ sym c.arch_number-in-PutLive.ensures)) _)
