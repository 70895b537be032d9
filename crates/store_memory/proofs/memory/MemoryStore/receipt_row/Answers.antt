use Rattle.std.proofs.Common.{Some, ap, ◌∙◌}
use Rattle.store_memory.specs.{Held.pair_cmp, Table.row_at}
use Rattle.store_memory.proofs.memory.MemoryStore.receipt_row.Goals as goal

pub returns-in_ok-copy-in-Some : goal.returns-in_ok-copy-in-Some
returns-in_ok-copy-in-Some c = λ h held.
    ap (λ r. Some r) c.in_ok-copy-in-Some.ensures
    ∙ (c.in-Some.ensures
    ∙ (ap (λ octets. row_at pair_cmp c.args.self.now.receipts (c.args.operator.now, octets)) c.octets.ensures.octets
    ∙ held.receipts (c.args.operator.now, c.args.key)))

pub returns-in-None : goal.returns-in-None
returns-in-None c = λ h held.
    c.in-None.ensures
    ∙ (ap (λ octets. row_at pair_cmp c.args.self.now.receipts (c.args.operator.now, octets)) c.octets.ensures.octets
    ∙ held.receipts (c.args.operator.now, c.args.key))
