use Rattle.std.{proofs.Common.{◌++◌, List, ℕ, ap, ◌∙◌}, specs.Prelude.{false, decimal, string_bytes}}
use Rattle.json.specs.Print.{escape_byte, quoted}
use Rattle.hall_types.specs.Hall.{second}
use Rattle.hall_events.{specs.Reply.first_members, proofs.MachineLemmas.{members_pushed, pushed, pushed_all}}
use Rattle.hall_events.proofs.machine_text.push_first.Goals as goal

pub returns : goal.returns
unfolding escape_byte
returns c =
    members_pushed {later = false} {ms = first_members second c.args.machine.now}
    (pushed c.in_ok-push_str.ensures.bytes (c.in_ok-push_text.ensures ∙ ap (λ (word : List ℕ). string_bytes c.push_str.new.self ++ quoted word) c.text.ensures)
    (pushed c.in_ok-push_str-2.ensures.bytes c.in_ok-push_number.ensures
    (pushed c.in_ok-push_str-3.ensures.bytes c.in_ok-push_moment.ensures
    (pushed c.in_ok-push_str-4.ensures.bytes c.in_ok-push_erase.ensures
    (pushed c.in_ok-push_str-5.ensures.bytes
    (c.in_ok-push_count.ensures ∙ ap (λ (n : ℕ). string_bytes c.push_str-5.new.self ++ decimal n) c.get.ensures.number) pushed_all)))))
