use Rattle.hall_laws.{specs.Laws.KeepsMachines, proofs.{Deleted.keeps_machines, Frame.at_step}}
use Rattle.hall_laws.proofs.past.machines_stay.Goals as goal

pub returns : goal.returns
returns c = at_step c.steps_keep_halls_sound.ensures.step KeepsMachines keeps_machines
