use Rattle.boot_desk.proofs.NewHallLemmas.{new_hall_sound}
use Rattle.boot_desk.proofs.laws.new_halls_are_sound.Goals as goal

pub returns : goal.returns
returns c = new_hall_sound
