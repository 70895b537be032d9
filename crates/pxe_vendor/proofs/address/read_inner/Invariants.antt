use Rattle.std.proofs.Common.{◌≡◌, ◌-◌, ◌*◌, take, drop, length}
use Rattle.pxe_vendor.{specs.MacText.{mac_of, more_octets}, proofs.MacLemmas.read_then}
use Rattle.pxe_vendor.proofs.address.read_inner.Given as goal

-- the octets so far, and then those that are left, are the address
abbrev pub invariant-loop-i : goal.invariant-loop-i
invariant-loop-i l = record {
  room : length l.address ≡ 6;
  read : read_then (take l.i l.address) (more_octets (drop (3 * l.i - 1) l.text)) ≡ mac_of l.text;
}
