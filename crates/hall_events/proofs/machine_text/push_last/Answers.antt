use Rattle.std.{proofs.Common.{◌++◌, List, ℕ, ap, ◌∙◌}, specs.Prelude.{true, decimal, string_bytes}}
use Rattle.json.specs.Print.{escape_byte, quoted}
use Rattle.hall_events.{specs.Reply.last_members, proofs.MachineLemmas.{members_pushed, pushed, pushed_all}}
use Rattle.hall_events.proofs.machine_text.push_last.Goals as goal

pub returns : goal.returns
unfolding escape_byte
returns c =
    members_pushed {later = true} {ms = last_members c.args.machine.now}
    (pushed c.in_ok-push_str.ensures.bytes c.in_ok-push_name.ensures
    (pushed c.in_ok-push_str-2.ensures.bytes (c.in_ok-push_text.ensures ∙ ap (λ (word : List ℕ). string_bytes c.push_str-2.new.self ++ quoted word) c.text.ensures.text)
    (pushed c.in_ok-push_str-3.ensures.bytes (c.in_ok-push_text-2.ensures ∙ ap (λ (word : List ℕ). string_bytes c.push_str-3.new.self ++ quoted word) c.text-2.ensures)
    (pushed c.in_ok-push_str-4.ensures.bytes c.in_ok-push_uuid.ensures
    (pushed c.in_ok-push_str-5.ensures.bytes
    (c.in_ok-push_count.ensures ∙ ap (λ (n : ℕ). string_bytes c.push_str-5.new.self ++ decimal n) c.get.ensures.number) pushed_all)))))
