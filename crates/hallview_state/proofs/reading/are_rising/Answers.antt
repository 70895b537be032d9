use Rattle.std.proofs.Common.{rules}
use Rattle.hallview_state.proofs.SearchLemmas.{rises_by}
use Rattle.hallview_state.specs.declared.listed.Listed.{Listed}
use Rattle.hallview_state.proofs.reading.are_rising.Goals as goal

pub returns : goal.returns
returns c is =
    rises_by (λ (one : Listed). one.machine.id) c.args.machines.now c.is_sorted_by.result c.is_sorted_by.ensures.cases (λ a b f' k. search rules)
    (search rules)
