use Rattle.std.proofs.{Common.{◌≡◌, ◌∙◌, ◌+◌, ◌*◌, ◌-◌, Some, slice_index, arith}, lemmas.List.length-set}
use Rattle.pxe_vendor.{specs.MacText.octet_of, proofs.MacLemmas.mac_of-more}
use Rattle.pxe_vendor.proofs.address.read_inner.Goals as goal

pub loop-i-preserved : goal.loop-i-preserved
loop-i-preserved c =
    let text = c.args.text.now in
    let i = c.loop-i.i in
    let octet = c.in_ok-address-2.field-0 in
    let room = c.loop-i.invariant.room in
    let colon : slice_index text (3 * i - 1) ≡ 58 = omega arith in
    let read : octet_of (slice_index text (3 * i)) (slice_index text (3 * i + 1)) ≡ Some octet = cc (c.octet-in-loop-i.ensures, c.branch-address-in-loop-i.ensures, c.in_ok-address-2.is, c.in_ok-address-2.was) in
    record {
      room = length-set c.loop-i.address i octet ∙ room;
      read = mac_of-more text c.loop-i.address i octet (omega arith) (omega arith) (omega arith) colon read c.loop-i.invariant.read;
    }
