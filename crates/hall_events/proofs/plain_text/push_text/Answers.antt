use Rattle.std.{proofs.Common.{◌≡◌, true}, specs.List.list_all}
use Rattle.hall_events.{specs.WrittenMachine.is_plain, proofs.PlainLemmas.text_pushed}
use Rattle.hall_events.proofs.plain_text.push_text.Goals as goal

pub returns : goal.returns
returns c =
    let plain : list_all is_plain c.args.word.now ≡ true = search in
    text_pushed c.args.word.now _ _ _ _ plain c.in_ok-push_str.ensures.bytes c.in_ok-push_str-2.ensures.bytes c.in_ok-push_str-3.ensures.bytes
