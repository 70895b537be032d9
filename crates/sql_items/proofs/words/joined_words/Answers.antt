use Rattle.sql_schema.specs.Words.{join_by, joined, if_ok}
use Rattle.std.proofs.Common.{ap, ◌∷◌, [], ◌∙◌}
use Rattle.sql_items.proofs.WordLemmas.{join_is}
use Rattle.sql_items.proofs.words.joined_words.Goals as goal

pub returns : goal.returns
returns c =
    if_ok _ _ c.join.result c.join.ensures.ok (λ text is. is ∙ ap (join_by (λ text. text.now) (32 ∷ [])) c.deref.ensures.value
    ∙ join_is (λ text. text.now) c.in_ok-texts_of.field-0.items ∙ ap joined c.in_ok-texts_of.ensures)
