use Rattle.sql_schema.specs.{Words.{hall_schema, no_schema}, SchemaLaws.makes_second, StepLaws.{gives, then}}
use Rattle.sql_tables.proofs.making.make_hall.Goals as goal

pub returns-clause-made : goal.returns-clause-made
returns-clause-made g c clean =
    gives _ c.put_first_rows.result (then c.in_ok-make_all.ensures.made c.put_first_rows.ensures.survives c.put_first_rows.ensures.made clean)
    (λ done both blank. both.1 (both.0 hall_schema (no_schema, record { schema = blank; empty = tt }, makes_second)))
