use Rattle.hall_laws.{specs.Laws.EntersByTable, proofs.{Entries.enters_by_table, Frame.at_step}}
use Rattle.hall_laws.proofs.past.entries_by_table.Goals as goal

pub returns : goal.returns
returns c = at_step c.steps_keep_halls_sound.ensures.step EntersByTable enters_by_table
