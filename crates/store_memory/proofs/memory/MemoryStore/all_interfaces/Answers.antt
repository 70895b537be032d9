use Rattle.std.proofs.{Common.◌∙◌, lemmas.Result.IfOk-weaker}
use Rattle.store_memory.proofs.TableLemmas.{texts_listed}
use Rattle.store_memory.proofs.memory.MemoryStore.all_interfaces.Goals as goal

pub returns : goal.returns
returns c = IfOk-weaker c.rows.result _ _ (λ rows is h held. is ∙ texts_listed c.args.self.now.interfaces h.interfaces c.rows.ensures.ordered held.interfaces) c.rows.ensures.rows
