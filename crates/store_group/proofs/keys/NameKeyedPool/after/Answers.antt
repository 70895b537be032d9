use Rattle.std.proofs.Common.{◌∙◌}
use Rattle.store_group.proofs.KeyLemmas.{text_put, text_put_other}
use Rattle.store_group.proofs.keys.NameKeyedPool.after.Goals as goal

pub returns-then-eq : goal.returns-then-eq
returns-then-eq c = λ h was. rw c.in-PutPool.is (text_put h.pools c.in-PutPool.pool.name _ c.if-eq.ensures _)

pub returns-else-eq : goal.returns-else-eq
returns-else-eq c = λ h was. rw c.in-PutPool.is (was ∙ text_put_other h.pools c.in-PutPool.pool.name _ c.if-eq.ensures _)
