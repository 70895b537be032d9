use Rattle.std.specs.Prelude.{string_bytes}
use Rattle.serde_json.specs.Written.{comma_if}
use Rattle.hall_events.proofs.PlainLemmas.{mac_pushed}
use Rattle.hall_events.proofs.machine_text.push_mac.Goals as goal

pub returns : goal.returns
returns c =
    mac_pushed c.args.interface.now.mac c.octets.result (string_bytes c.args.text.now) (comma_if c.args.later) (string_bytes c.push_str.new.self) (string_bytes c.push_str-2.new.self) (string_bytes c.push_mac.new.text) (string_bytes c.push_str-3.new.self)
    c.octets.ensures.range c.octets.ensures.octets (rw c.comma_if.ensures at c.in_ok-push_str.ensures.bytes) c.in_ok-push_str-2.ensures.bytes c.in_ok-push_mac.ensures c.in_ok-push_str-3.ensures.bytes
