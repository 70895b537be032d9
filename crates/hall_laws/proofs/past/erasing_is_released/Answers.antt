use Rattle.hall_laws.{specs.{Prelude.second, Step.IsTypedStep, Laws.ErasesRightly}, proofs.{Frame.from_new_given, Erasing.{KnowsReleases, erases_rightly, new_releases, releases_step}}}
use Rattle.hall_laws.proofs.past.erasing_is_released.Goals as goal

pub returns : goal.returns
returns c =
    from_new_given c.steps_keep_halls_sound.ensures.step IsTypedStep KnowsReleases releases_step (c.new_halls_are_sound.ensures second) new_releases
    ErasesRightly (erases_rightly (record { status = c.erasing_texts.ensures.status; kind = c.erasing_texts.ensures.kind; kept = c.erasing_texts.ensures.kept }))
