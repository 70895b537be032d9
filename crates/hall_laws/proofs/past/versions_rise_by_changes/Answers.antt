use Rattle.hall_laws.{specs.Laws.RaisesVersions, proofs.{Frame.at_step, Versions.raises_versions}}
use Rattle.hall_laws.proofs.past.versions_rise_by_changes.Goals as goal

pub returns : goal.returns
returns c = at_step c.steps_keep_halls_sound.ensures.step RaisesVersions raises_versions
