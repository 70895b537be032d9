use Rattle.std.proofs.Common.{◌∙◌}
use Rattle.store_group.proofs.KeyLemmas.{text_put, text_put_other}
use Rattle.store_group.proofs.keys.NameKeyedOperator.after.Goals as goal

pub returns-then-eq : goal.returns-then-eq
returns-then-eq c = λ h was. rw c.in-PutOperator.is (text_put h.operators c.in-PutOperator.operator.name _ c.if-eq.ensures _)

pub returns-else-eq : goal.returns-else-eq
returns-else-eq c = λ h was. rw c.in-PutOperator.is (was ∙ text_put_other h.operators c.in-PutOperator.operator.name _ c.if-eq.ensures _)
