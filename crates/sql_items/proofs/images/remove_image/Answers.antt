use Rattle.sql_schema.specs.{Words.{state, images}, StepLaws.writes, Steps.always, TableStatements.without_item}
use Rattle.sql_items.proofs.ImageLemmas.{removes_image}
use Rattle.sql_items.proofs.images.remove_image.Goals as goal

pub returns-clause-written : goal.returns-clause-written
returns-clause-written g c clean =
    writes (state g.S.Store) always (λ rows. without_item images rows c.args.name.now) _ _ c.write.result (rw c.name_value.ensures at (c.write.ensures.written clean))
    (λ before rows _. removes_image (state g.S.Store) c.args.name.now before rows)
