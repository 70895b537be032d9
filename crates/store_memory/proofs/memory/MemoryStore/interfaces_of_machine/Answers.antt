use Rattle.std.proofs.{Common.{◌==◌, filter, ap, ◌∙◌}, lemmas.Result.IfOk-weaker}
use Rattle.store_memory.proofs.TableLemmas.{texts_listed}
use Rattle.store_memory.proofs.memory.MemoryStore.interfaces_of_machine.Goals as goal

pub returns : goal.returns
returns c = IfOk-weaker c.interfaces_in.result _ _ (λ rows is h held.
    is ∙ ap (filter (λ i. i.machine == c.args.id)) (texts_listed c.args.self.now.interfaces h.interfaces c.interfaces_in.ensures.ordered held.interfaces))
    c.interfaces_in.ensures.rows
