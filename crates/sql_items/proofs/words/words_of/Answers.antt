use Rattle.sql_schema.specs.Words.{YieldsList-from_str_split, YieldsList-at, YieldsList-end}
use Rattle.std.proofs.Common.{lit<, sym, ◌∙◌}
use Rattle.sql_items.proofs.WordLemmas.{some_words}
use Rattle.sql_items.proofs.words.words_of.Goals as goal

pub returns : goal.returns
returns c =
    let text = c.split-part-items.ensures in
    let parts = YieldsList-from_str_split 32 c.args.text.now (lit< tt) text.text text.has_more text.pattern in
    let all = YieldsList-end (YieldsList-at c.into_iter-part-iterator.ensures.into_iter_gives parts) c.loop-part.yielded _ c.loop-part.yielded_by _ _ c.in-None.is c.next.ensures.steps in
    c.loop-part.invariant ∙ all.0 ∙ sym (some_words c.args.text.now (sym c.is_empty.ensures ∙ c.if-is_empty.false))
