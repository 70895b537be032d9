use Rattle.std.{proofs.Common.{◌≡◌, ◌++◌, ◌∷◌, [], string_bytes, take}, specs.List.flat_map}
use Rattle.hall_report.specs.Prelude.{mac_text}
use Rattle.hall_report.proofs.member.push_macs.Given as goal

-- the addresses so far stand in the text
abbrev pub invariant-loop-interface : goal.invariant-loop-interface
invariant-loop-interface l =
    string_bytes l.text ≡ string_bytes l.initial.text ++ flat_map (λ i. (32 ∷ []) ++ mac_text i.mac) (take l.interface-index l.interfaces)
