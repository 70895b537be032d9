use Rattle.std.proofs.Common.{◌≡◌, arith}
use Rattle.serve_sockets.proofs.{YieldingLemmas.{ahead_self, ahead_to}, yielding.yielding.Goals.{then-is_ahead, else-is_ahead}}
use Rattle.serve_sockets.proofs.yielding.yielding.Goals as goal

pub loop-slot-init : goal.loop-slot-init
loop-slot-init g c = record {
  within = c.requires.some;
  ahead = λ k below. let first : k ≡ 0 = omega (arith, below) in rw first (ahead_self c.args.slots.now 0);
}

pub loop-slot-preserved : goal.loop-slot-preserved
loop-slot-preserved g c =
    let so_far = c.loop-slot.invariant in
    let slots = c.args.slots.now in
    let first = c.loop-slot.first in
    let slot = c.loop-slot.slot in
    elim c.if-is_ahead.branch [
      | then-is_ahead w ↦ record {
        within = rw w.first-is c.loop-slot-test.true;
        ahead = rw w.first-is (ahead_to slots first slot slot so_far.ahead (c.is_ahead.ensures.yes w.if-is_ahead.true) (ahead_self slots slot));
      }
      | else-is_ahead w ↦ record {
        within = rw w.first-is so_far.within;
        ahead = rw w.first-is (ahead_to slots first first slot so_far.ahead (ahead_self slots first) (c.is_ahead.ensures.no w.if-is_ahead.false));
      }
    ]

pub returns-clause-goes : goal.returns-clause-goes
returns-clause-goes g c k below = c.loop-slot.invariant.ahead k (omega (arith, below, c.loop-slot-test.false))

pub tally-crowds-requires : goal.tally-crowds-requires
tally-crowds-requires g c = c.requires.few

pub is_ahead-requires : goal.is_ahead-requires
is_ahead-requires g c = c.tally-crowds.ensures

pub returns-clause-within : goal.returns-clause-within
returns-clause-within g c = c.loop-slot.invariant.within
