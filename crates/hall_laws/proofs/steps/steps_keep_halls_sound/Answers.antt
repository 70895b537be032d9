use Rattle.std.proofs.Common.{refl}
use Rattle.hall_laws.{specs.{Prelude.{applied_schema, new_hall, second}, Decision.decision_of}, proofs.{Frame.run_end, SoundLemmas.{KeepSound, decision_keeps, step_keeps}}}
use Rattle.hall_laws.proofs.steps.steps_keep_halls_sound.Goals as goal

-- what the laws of the decisions say
laws : goal.After-commands_keep_halls_sound → KeepSound
laws c = record {
  scripts = c.decisions_keep_halls_sound.ensures.script;
  reports = c.decisions_keep_halls_sound.ensures.report;
  answers = c.decisions_keep_halls_sound.ensures.answer;
  expiries = c.decisions_keep_halls_sound.ensures.expiry;
  enlistings = c.decisions_keep_halls_sound.ensures.enlisting;
  commands = c.commands_keep_halls_sound.ensures;
}

pub returns : goal.returns
returns c = record {
  rows = decision_keeps (laws c);
  schema = λ site h event moment fresh. applied_schema (decision_of site h event moment fresh).rows h;
  step = step_keeps (laws c);
  run = run_end (step_keeps (laws c));
  from_new = λ admin digest end steps run.
      run_end (step_keeps (laws c)) (new_hall second admin digest) end steps run (c.new_halls_are_sound.ensures second admin digest) refl;
}
