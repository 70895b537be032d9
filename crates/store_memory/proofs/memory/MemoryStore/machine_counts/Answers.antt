use Rattle.std.proofs.{Common.{ap, ◌∙◌}, lemmas.Result.IfOk-weaker}
use Rattle.store_memory.{specs.Counted.many, proofs.{CountLemmas.are_counts, TableLemmas.numbers_listed}}
use Rattle.store_memory.proofs.memory.MemoryStore.machine_counts.Goals as goal

pub returns : goal.returns
returns c = IfOk-weaker c.listed.result _ _ (λ list is h held.
    are_counts c.in_ok-counts.counts h c.in_ok-counts.ensures.entries c.listed.ensures.found c.listed.ensures.ordered
    (λ pool status. c.in_ok-counts.ensures.exact pool status ∙ ap (many pool status) (numbers_listed c.args.self.now.machines h.machines c.count_all.ensures.ordered held.machines))
    list.items is)
    c.listed.ensures.listed
