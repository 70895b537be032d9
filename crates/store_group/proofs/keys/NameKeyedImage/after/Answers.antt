use Rattle.std.proofs.Common.{◌∙◌}
use Rattle.store_group.proofs.KeyLemmas.{text_put, text_put_other, text_gone, text_gone_other}
use Rattle.store_group.proofs.keys.NameKeyedImage.after.Goals as goal

pub returns-in_ok-copy-in-PutImage : goal.returns-in_ok-copy-in-PutImage
returns-in_ok-copy-in-PutImage c = λ h was. rw (c.in-PutImage.is, c.in_ok-copy-in-PutImage.ensures) (text_put h.images c.in-PutImage.image.name _ (rw c.name.ensures at c.if-eq.ensures) _)

pub returns-else-eq : goal.returns-else-eq
returns-else-eq c = λ h was. rw c.in-PutImage.is (was ∙ text_put_other h.images c.in-PutImage.image.name _ (rw c.name.ensures at c.if-eq.ensures) _)

pub returns-then-eq-2 : goal.returns-then-eq-2
returns-then-eq-2 c = λ h was. rw c.in-ImageGone.is (text_gone h.images c.in-ImageGone.name _ c.if-eq-2.ensures)

pub returns-else-eq-2 : goal.returns-else-eq-2
returns-else-eq-2 c = λ h was. rw c.in-ImageGone.is (was ∙ text_gone_other h.images c.in-ImageGone.name _ c.if-eq-2.ensures)
