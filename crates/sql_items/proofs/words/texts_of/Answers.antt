use Rattle.sql_schema.specs.Words.{YieldsList-from_slice, YieldsList-from_map_by, map_from_collect, map-id, if_ok}
use Rattle.std.proofs.Common.{rules, tests, ◌∙◌}
use Rattle.sql_items.proofs.words.texts_of.Goals as goal

pub returns : goal.returns
returns c =
    if_ok _ _ c.collect.result
    (map_from_collect _ c.collect.ensures.ran (YieldsList-from_map_by _ (λ r. r.now) (λ w. w) (YieldsList-from_slice c.args.words.now cc) c.map.ensures.closure (λ x r q k. search (rules, tests))))
    (λ texts read. read ∙ map-id c.args.words.now)
