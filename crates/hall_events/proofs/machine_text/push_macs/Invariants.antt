use Rattle.std.{proofs.Common.{◌≡◌, ◌++◌, map, drop}, specs.Prelude.string_bytes}
use Rattle.serde_json.specs.{Data.array, View.items_of, Written.{compact_text, items_text}}
use Rattle.hall_events.specs.Command.{mac_data}
use Rattle.hall_events.proofs.machine_text.push_macs.Given as goal

-- the text so far, with the addresses that are left, is the whole
abbrev pub invariant-loop-interface : goal.invariant-loop-interface
invariant-loop-interface l = string_bytes l.text ++ items_text l.later (items_of (map mac_data (map (λ it. it.mac) (drop l.interface-index l.interfaces))))
    ≡ string_bytes l.fn.text ++ compact_text (array (items_of (map mac_data (map (λ it. it.mac) l.interfaces))))
