use Rattle.sql_items.specs.TableLaws.{puts_operator}
use Rattle.sql_items.proofs.operators.put_operator.Goals as goal

pub returns-clause-written : goal.returns-clause-written
returns-clause-written g c clean =
    c.put.ensures.written clean _
    (rw (c.name_value.ensures, c.small_value.ensures, c.octets_value.ensures, c.truth_value.ensures, c.number.ensures, c.octets-digest.ensures.octets) (puts_operator _ c.args.operator.now))
