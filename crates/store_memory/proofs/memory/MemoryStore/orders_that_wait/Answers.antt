use Rattle.std.proofs.{Common.{filter, ap, ◌∙◌}, lemmas.Result.IfOk-weaker}
use Rattle.store_memory.{specs.Prelude.waits, proofs.TableLemmas.numbers_listed}
use Rattle.store_memory.proofs.memory.MemoryStore.orders_that_wait.Goals as goal

pub returns : goal.returns
returns c = IfOk-weaker c.waiting_in.result _ _ (λ rows is h held.
    is ∙ ap (filter (λ o. waits o.stage)) (numbers_listed c.args.self.now.orders h.orders c.waiting_in.ensures.ordered held.orders))
    c.waiting_in.ensures.rows
