use Rattle.hall_laws.{specs.Prelude.{new_hall, second}, proofs.FirstRuns.{new_spares, run_holds}}
use Rattle.hall_laws.proofs.migration.full_alone.Goals as goal

pub returns : goal.returns
returns c = record {
  end = λ admin digest end steps asks run.
      (run_holds c.steps_keep_halls_sound.ensures.step steps (new_hall second admin digest) end asks (new_spares admin digest (c.new_halls_are_sound.ensures second admin digest)) run).1;
  each = λ admin digest end steps asks run.
      (run_holds c.steps_keep_halls_sound.ensures.step steps (new_hall second admin digest) end asks (new_spares admin digest (c.new_halls_are_sound.ensures second admin digest)) run).0;
}
