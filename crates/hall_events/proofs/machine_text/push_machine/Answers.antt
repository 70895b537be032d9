use Rattle.hall_events.{specs.Reply.listed, proofs.MachineLemmas.machine_pushed}
use Rattle.hall_events.proofs.machine_text.push_machine.Goals as goal

pub returns : goal.returns
returns c =
    machine_pushed (listed c.args.machine.now c.args.interfaces.now) _ _ _ _ _ _
    c.in_ok-push_str.ensures.bytes c.in_ok-push_first.ensures c.in_ok-push_middle.ensures c.in_ok-push_last.ensures c.in_ok-push_str-2.ensures.bytes
