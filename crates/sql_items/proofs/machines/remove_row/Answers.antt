use Rattle.sql_schema.specs.{Words.{state, number, machines}, StepLaws.writes, TableStatements.without_item}
use Rattle.std.proofs.Common.{[], ◌∷◌}
use Rattle.sql_items.{specs.{Machines.HasNoChild, declared.machines.TheConstants.REMOVE_MACHINE}, proofs.MachineLemmas.removes_machine}
use Rattle.sql_items.proofs.machines.remove_row.Goals as goal

pub returns-clause-written : goal.returns-clause-written
returns-clause-written g c clean =
    writes (state g.S.Store) (λ rows. HasNoChild rows c.args.id) (λ rows. without_item machines rows c.args.id) REMOVE_MACHINE.now (number c.args.id ∷ []) c.write.result
    (rw (c.number_value.ensures, c.get.ensures.number) at (c.write.ensures.written clean))
    (λ before rows alone old new held count ran. removes_machine (state g.S.Store old) (state g.S.Store new) before rows held c.args.id alone count ran)
