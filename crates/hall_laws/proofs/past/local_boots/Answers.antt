use Rattle.hall_laws.{specs.Laws.BootsLocally, proofs.{Frame.at_step, Scripts.boots_locally}}
use Rattle.hall_laws.proofs.past.local_boots.Goals as goal

pub returns : goal.returns
returns c = at_step c.steps_keep_halls_sound.ensures.step BootsLocally (λ past s is sound. boots_locally c.local_boot.ensures.deployed past s is)
