use Rattle.std.proofs.Common.{refl, ◌∙◌}
use Rattle.hall_types.specs.Hall.{pair}
use Rattle.store_group.proofs.KeyLemmas.{put_apart, put_here}
use Rattle.store_group.proofs.keys.Tuple2NameRequestKeyKeyedReceipt.after.Goals as goal

pub returns-in_ok-copy-in-PutReceipt : goal.returns-in_ok-copy-in-PutReceipt
returns-in_ok-copy-in-PutReceipt c = λ h was.
    let its = c.in-PutReceipt.receipt in
    rw (c.in-PutReceipt.is, c.in_ok-copy-in-PutReceipt.ensures) (put_here h.receipts (pair its.operator its.key) _ (c.if-is_under.ensures.here refl) its)

pub returns-else-is_under : goal.returns-else-is_under
returns-else-is_under c = λ h was.
    let its = c.in-PutReceipt.receipt in
    rw c.in-PutReceipt.is (was ∙ put_apart h.receipts (pair its.operator its.key) _ (c.if-is_under.ensures.apart refl) its)
