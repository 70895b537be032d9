use Rattle.std.specs.Prelude.{string_bytes}
use Rattle.hall_events.proofs.MachineLemmas.{mac_written}
use Rattle.hall_events.proofs.machine_text.push_macs.Goals as goal

pub loop-interface-preserved : goal.loop-interface-preserved
loop-interface-preserved c =
    mac_written c.args.interfaces.now c.loop-interface.interface-index c.interface-item.result (string_bytes c.loop-interface.text) (string_bytes c.push_mac.new.text) c.loop-interface.later
    _ c.loop-interface-test.true c.interface-item.is c.in_ok-push_mac.ensures c.loop-interface.invariant
