use Rattle.sql_schema.specs.{Words.state, StepLaws.{gives, stays}}
use Rattle.std.proofs.Common.{Ok, false, true, true≢false, refl, sym, ◌∙◌}
use Rattle.sql_tables.proofs.indexes.make_index.Goals as goal

pub returns-then-is_there-clause-step : goal.returns-then-is_there-clause-step
returns-then-is_there-clause-step g c clean = stays _ _ (Ok tt) (λ there. refl)

pub returns-else-is_there-clause-step : goal.returns-else-is_there-clause-step
returns-else-is_there-clause-step g c clean = gives _ c.run.result (c.run.ensures.ran clean) (λ done ran there. absurd (true≢false (sym there ∙ c.if-is_there.false)))
