use Rattle.sql_schema.specs.StepLaws.{writes}
use Rattle.sql_items.specs.TableLaws.{adds_member}
use Rattle.sql_items.proofs.pools.add_member.Goals as goal

pub returns-clause-written : goal.returns-clause-written
returns-clause-written g c clean =
    writes _ _ _ _ _ c.write.result (c.write.ensures.written clean) (rw (c.name_value.ensures, c.name_value-2.ensures) (adds_member _ c.args.member.now))
