use Rattle.hall_laws.{specs.Prelude.{first, new_hall, second}, proofs.{Erased.erases_fully, FirstRuns.{new_spares, typed_whole, whole_of}, Forgetting.new_forgotten, Twins.twins_plain}}
use Rattle.hall_laws.proofs.migration.first_erasing_is_released.Goals as goal

pub returns : goal.returns
returns c = λ admin digest h steps typed run.
    let w = whole_of c.steps_keep_halls_sound.ensures.step steps (new_hall second admin digest) (new_hall first admin digest) h
    (new_spares admin digest (c.new_halls_are_sound.ensures second admin digest)) (new_forgotten admin digest) run in
    let its = typed_whole w.whole steps (twins_plain w.whole steps w.twins) typed in
    erases_fully w.whole steps w.twins (c.texts_are_scripts.ensures admin digest w.last w.whole its w.run) (c.erasing_is_released.ensures admin digest w.last w.whole its w.run)
