use Rattle.std.proofs.Common.{refl}
use Rattle.hall_laws.{specs.{Prelude.{first, new_hall, second}, Decision.decision_of, FirstSchema.first_content}, proofs.{FirstRuns.{full_in, new_spares, whole_of}, FirstSteps.{came, first_step}, Forgetting.new_forgotten}}
use Rattle.hall_laws.proofs.migration.first_steps_are_made.Goals as goal

pub returns : goal.returns
returns c = λ admin digest h steps a run asks.
    let w = whole_of c.steps_keep_halls_sound.ensures.step steps (new_hall second admin digest) (new_hall first admin digest) h
    (new_spares admin digest (c.new_halls_are_sound.ensures second admin digest)) (new_forgotten admin digest) run in
    let d = decision_of a.site w.last a.event a.moment a.fresh in
    (first_step h a d, first_content d.content, refl, refl, refl, came w.last h a (record { full = full_in w.last w.holds; forgotten = w.forgotten }) asks)
