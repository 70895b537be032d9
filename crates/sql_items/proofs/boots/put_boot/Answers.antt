use Rattle.sql_schema.specs.{Words.{state, boots}, TableStatements.with_item}
use Rattle.sql_items.specs.ChildLaws.{puts_boot}
use Rattle.sql_items.proofs.boots.put_boot.Goals as goal

pub returns-clause-written : goal.returns-clause-written
returns-clause-written g c clean =
    c.put.ensures.written clean (λ rows. with_item boots rows c.args.boot.now)
    (rw (c.number_value.ensures, c.number_value-2.ensures, c.small_value.ensures, c.octets_value.ensures, c.small_value-2.ensures, c.get.ensures.number, c.get-2.ensures.number, c.number.ensures, c.number-2.ensures, c.octets-token.ensures.octets)
    (puts_boot (state g.S.Store) c.args.boot.now))
