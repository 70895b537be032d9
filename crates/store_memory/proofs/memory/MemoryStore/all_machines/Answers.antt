use Rattle.std.proofs.{Common.◌∙◌, lemmas.Result.IfOk-weaker}
use Rattle.store_memory.proofs.TableLemmas.{numbers_listed}
use Rattle.store_memory.proofs.memory.MemoryStore.all_machines.Goals as goal

pub returns : goal.returns
returns c = IfOk-weaker c.rows.result _ _ (λ rows is h held. is ∙ numbers_listed c.args.self.now.machines h.machines c.rows.ensures.ordered held.machines) c.rows.ensures.rows
