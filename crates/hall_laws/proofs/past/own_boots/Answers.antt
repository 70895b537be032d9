use Rattle.hall_laws.{specs.{Prelude.second, Laws.CountsOwnBoot}, proofs.{Frame.from_new, OwnBoots.{OwnsBoots, counts_own, new_owns, owns_step}}}
use Rattle.hall_laws.proofs.past.own_boots.Goals as goal

pub returns : goal.returns
returns c = from_new c.steps_keep_halls_sound.ensures.step OwnsBoots owns_step (c.new_halls_are_sound.ensures second) new_owns CountsOwnBoot counts_own
