use Rattle.std.proofs.Common.{arith}
use Rattle.serve_sockets.proofs.{ListsLemmas.{first_to, lowest_wants}, lists.first_from.Goals.{then-is_earlier, else-is_earlier}}
use Rattle.serve_sockets.proofs.lists.first_from.Goals as goal

pub loop-slot-init : goal.loop-slot-init
loop-slot-init g c =
    let first = lowest_wants c.args.wanted c.args.slots.now c.args.lowest c.requires in
    record { within = first.0; wants = first.1; first = first.2 }

pub loop-slot-preserved : goal.loop-slot-preserved
loop-slot-preserved g c =
    let so_far = c.loop-slot.invariant in
    let slots = c.args.slots.now in
    let best = c.loop-slot.first in
    let slot = c.loop-slot.slot in
    elim c.if-is_earlier.branch [
      | then-is_earlier w ↦ record {
        within = rw w.first-is c.loop-slot-test.true;
        wants = rw w.first-is (c.is_earlier.ensures.wants w.if-is_earlier.true);
        first = rw w.first-is (first_to c.args.wanted slots best slot slot so_far.first (c.is_earlier.ensures.yes w.if-is_earlier.true) (λ wanted. omega arith));
      }
      | else-is_earlier w ↦ record {
        within = rw w.first-is so_far.within;
        wants = rw w.first-is so_far.wants;
        first = rw w.first-is (first_to c.args.wanted slots best best slot so_far.first (omega arith) (c.is_earlier.ensures.no w.if-is_earlier.false));
      }
    ]

pub returns : goal.returns
returns g c = record {
  within = c.loop-slot.invariant.within;
  wants = c.loop-slot.invariant.wants;
  first = λ k below. c.loop-slot.invariant.first k (omega (arith, below, c.loop-slot-test.false));
}
