use Rattle.sql_schema.specs.{Words.state, StepLaws.{gives, then}}
use Rattle.std.proofs.Common.{ap, ◌∙◌}
use Rattle.sql_tables.specs.declared.indexes.Indexes.{Indexes}
use Rattle.sql_tables.proofs.indexes.make_missing.Goals as goal

pub returns-clause-step : goal.returns-clause-step
returns-clause-step g c clean =
    gives _ c.make_index-3.result
    (then (then c.in_ok-make_index.ensures.step c.make_index-2.ensures.survives c.in_ok-make_index-2.ensures.step) c.make_index-3.ensures.survives c.make_index-3.ensures.step clean)
    (λ done all every. all.1 (ap (λ (i : Indexes). i.orders) every) ∙ all.0.1 (ap (λ (i : Indexes). i.boots) every) ∙ all.0.0 (ap (λ (i : Indexes). i.interfaces) every))
