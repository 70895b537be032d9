use Rattle.sql_schema.specs.StepLaws.{gives, then}
use Rattle.sql_tables.proofs.MakingLemmas.{rows_put}
use Rattle.sql_tables.proofs.making.put_first_rows.Goals as goal

pub returns-clause-made : goal.returns-clause-made
returns-clause-made g c clean =
    let operator = rw (c.params-to_sql-2.ensures, c.params-to_sql-3.ensures, c.params-to_sql-4.ensures, c.params-to_sql-5.ensures, c.text.ensures.text, c.from.ensures, c.number.ensures, c.as_slice.ensures, c.octets-octets.ensures.octets) at c.run-3.ensures.ran in
    gives _ c.run-3.result
    (then (then c.in_ok-run.ensures.ran c.run-2.ensures.survives (rw c.params-to_sql.ensures at c.in_ok-run-2.ensures.ran)) c.run-3.ensures.survives operator clean)
    (λ done ran was. rows_put c.args.admin c.args.digest ran.0.0 ran.0.1 ran.1 was)
