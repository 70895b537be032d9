use Rattle.std.{proofs.Common.{find, ap, ◌∙◌}, specs.Str.bytes_eq}
use Rattle.store_memory.proofs.TableLemmas.{texts_listed}
use Rattle.store_memory.proofs.memory.MemoryStore.operator_with.Goals as goal

pub returns : goal.returns
returns c = λ h held. c.operator_in.ensures.found ∙ ap (find (λ o. bytes_eq o.digest c.args.digest.now)) (texts_listed c.args.self.now.operators h.operators c.operator_in.ensures.ordered held.operators)
