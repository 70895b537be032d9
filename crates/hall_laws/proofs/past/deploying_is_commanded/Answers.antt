use Rattle.hall_laws.{specs.{Prelude.second, Step.IsTypedStep, Laws.DeploysRightly}, proofs.{Frame.from_new_given, Deploying.{KnowsDeploys, deploys_rightly, deploys_step, new_deploys}}}
use Rattle.hall_laws.proofs.past.deploying_is_commanded.Goals as goal

pub returns : goal.returns
returns c =
    from_new_given c.steps_keep_halls_sound.ensures.step IsTypedStep KnowsDeploys deploys_step (c.new_halls_are_sound.ensures second) new_deploys
    DeploysRightly (deploys_rightly c.deploying_texts.ensures)
