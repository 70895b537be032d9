use Rattle.std.specs.Prelude.{true}
use Rattle.json.specs.Print.{escape_byte}
use Rattle.hall_events.{specs.Reply.{listed, middle_members}, proofs.MachineLemmas.{members_pushed, pushed, pushed_all}}
use Rattle.hall_events.proofs.machine_text.push_middle.Goals as goal

pub returns : goal.returns
unfolding escape_byte
returns c =
    members_pushed {later = true} {ms = middle_members (listed c.args.machine.now c.args.interfaces.now)}
    (pushed c.in_ok-push_str.ensures.bytes c.in_ok-push_name.ensures
    (pushed c.in_ok-push_str-2.ensures.bytes c.in_ok-push_macs.ensures
    (pushed c.in_ok-push_str-3.ensures.bytes c.in_ok-push_flag.ensures
    (pushed c.in_ok-push_str-4.ensures.bytes c.in_ok-push_number.ensures pushed_all))))
