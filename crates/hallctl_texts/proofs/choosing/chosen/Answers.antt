use Rattle.std.proofs.Common.{◌∙◌}
use Rattle.hallctl_texts.proofs.choosing.chosen.Goals as goal

pub returns-clause-chosen : goal.returns-clause-chosen
returns-clause-chosen c = c.found.ensures.chosen (c.map-text.ensures.variant ∙ c.as_ref.ensures.variant ∙ c.in_ok-search.ensures)
