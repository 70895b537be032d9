use Rattle.sql_schema.specs.Words.{if_ok, asked_then, asked_failed}
use Rattle.std.proofs.Common.{Ok, Err}
use Rattle.sql_items.specs.NumberLaws.{reads_numbers}
use Rattle.sql_items.proofs.numbers.find_numbers.Goals as goal

pub returns-in-Ok-clause-asked : goal.returns-in-Ok-clause-asked
returns-in-Ok-clause-asked g c clean =
    asked_then _ _ _ _ c.in-Ok.rows.items c.only_numbers.result (reads_numbers _ _ (Ok c.in-Ok.rows.items) (c.in-Ok.ensures.ok clean) tt c.in-Ok.ensures.survives clean)
    (if_ok _ _ c.only_numbers.result c.only_numbers.ensures.numbers (λ found only h is. only h.last is))

pub returns-in-Err-clause-asked : goal.returns-in-Err-clause-asked
returns-in-Err-clause-asked g c clean = asked_failed _ _ _ _ c.in-Err.error (reads_numbers _ _ (Err c.in-Err.error) tt (c.in-Err.ensures.err clean) c.in-Err.ensures.survives clean)
