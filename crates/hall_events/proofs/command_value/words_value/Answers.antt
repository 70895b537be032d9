use Rattle.std.proofs.Common.{map, refl, ap, ◌∙◌}
use Rattle.serde_json.{specs.{Data.{array, string}, View.{view, items_of}}, proofs.Views.view-Array}
use Rattle.hall_events.proofs.ItemLemmas.{next_item, item_made, all_made}
use Rattle.hall_events.proofs.command_value.words_value.Goals as goal

pub loop-word-preserved : goal.loop-word-preserved
loop-word-preserved c =
    let word = c.word-item.result in
    rw c.in_ok-push.ensures.items
    (item_made view c.loop-word.items.items c.in_ok-try_from_str.field-0 (string word) _ _ _
    (next_item string c.args.words.now c.loop-word.word-index word c.loop-word-test.true c.word-item.is)
    (c.in_ok-try_from_str.ensures ∙ ap string c.text.ensures.text) c.loop-word.invariant)

pub returns : goal.returns
returns c =
    view-Array c.loop-word.items
    ∙ ap (λ values. array (items_of values))
    (all_made view c.loop-word.items.items (λ words. map string words) c.args.words.now c.loop-word.word-index _ refl c.loop-word-test.false c.loop-word.invariant)
