use Rattle.sql_schema.specs.{Words.state, StepLaws.writes}
use Rattle.sql_items.specs.ChildLaws.{removes_interface}
use Rattle.sql_items.proofs.interfaces.remove_interface.Goals as goal

pub returns-clause-written : goal.returns-clause-written
returns-clause-written g c clean =
    writes (state g.S.Store) _ _ _ _ c.write.result
    (rw (c.octets_value.ensures, c.octets-octets.ensures.octets) at (c.write.ensures.written clean)) (λ before rows may. removes_interface (state g.S.Store) c.args.mac before rows)
