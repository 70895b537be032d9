use Rattle.std.{proofs.Common.{◌≡◌, ◌++◌, take}, specs.Prelude.string_bytes}
use Rattle.pxe_vendor.specs.MacText.{mac_text}
use Rattle.pxe_vendor.proofs.address.push_mac.Given as goal

-- the text, and then the octets so far
abbrev pub invariant-loop-i : goal.invariant-loop-i
invariant-loop-i l = string_bytes l.text ≡ string_bytes l.fn.text ++ mac_text (take l.i l.address)
