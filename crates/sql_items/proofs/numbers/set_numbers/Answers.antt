use Rattle.sql_schema.specs.StepLaws.{writes}
use Rattle.sql_items.specs.NumberLaws.{sets_numbers}
use Rattle.sql_items.proofs.numbers.set_numbers.Goals as goal

pub returns-clause-written : goal.returns-clause-written
returns-clause-written g c clean =
    writes _ _ _ _ _ c.write.result (c.write.ensures.written clean)
    (λ before rows may. rw (c.number_value.ensures, c.number_value-2.ensures, c.number_value-3.ensures, c.get.ensures.number, c.get-2.ensures.number, c.get-3.ensures.number)
    (sets_numbers _ c.args.last before rows))
