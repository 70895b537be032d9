use Rattle.std.proofs.{Common.{rules, arith, ◌∙◌, sym, length-set}, lemmas.List.get_or-replicate}
use Rattle.serve_sockets.proofs.{YieldingLemmas.{crowd_fits, tally_more, tally_same, tally_whole}, yielding.tally.Goals.{in-Some, in_default}}
use Rattle.serve_sockets.proofs.yielding.tally.Goals as goal

pub loop-slot-init : goal.loop-slot-init
loop-slot-init g c = record {
  size = search rules;
  counted = λ bucket below. get_or-replicate 1024 bucket 0 0 below;
}

pub loop-slot-preserved : goal.loop-slot-preserved
loop-slot-preserved g c =
    let so_far = c.loop-slot.invariant in
    let slots = c.args.slots.now in
    let held = c.index-slots-slot.result in
    elim c.match-bucket_in.branch [
      | in-Some w ↦ record {
        size = rw w.crowds-is (length-set c.loop-slot.crowds w.in-Some.bucket _ ∙ so_far.size);
        counted = rw w.crowds-is (tally_more slots c.loop-slot.crowds c.loop-slot.slot w.in-Some.bucket held c.loop-slot-test.true c.index-slots-slot.is
            (sym c.bucket_in.ensures.bucket ∙ w.in-Some.is) w.in-Some.ensures.within so_far.size so_far.counted);
      }
      | in_default w ↦ record {
        size = rw w.crowds-is so_far.size;
        counted = rw w.crowds-is (tally_same slots c.loop-slot.crowds c.loop-slot.slot held c.loop-slot-test.true c.index-slots-slot.is
            (sym c.bucket_in.ensures.bucket ∙ w.in_default.is) so_far.counted);
      }
    ]

pub offset_bounds-slots-slot : goal.offset_bounds-slots-slot
offset_bounds-slots-slot g c = c.loop-slot.auto.slot-end

pub bounds-slots-slot : goal.bounds-slots-slot
bounds-slots-slot g c = c.loop-slot-test.true

pub offset_bounds-crowds-bucket : goal.offset_bounds-crowds-bucket
offset_bounds-crowds-bucket g c = omega (arith, c.in-Some.ensures.within)

pub bounds-crowds-bucket : goal.bounds-crowds-bucket
bounds-crowds-bucket g c = c.in-Some.ensures.within

pub overflow_add-crowds : goal.overflow_add-crowds
overflow_add-crowds g c = crowd_fits c.args.slots.now c.loop-slot.crowds c.loop-slot.slot c.in-Some.bucket c.requires (c.loop-slot.invariant.counted c.in-Some.bucket c.in-Some.ensures.within)

pub bounds-crowds-bucket-in-Some : goal.bounds-crowds-bucket-in-Some
bounds-crowds-bucket-in-Some g c = c.in-Some.ensures.within

pub returns : goal.returns
returns g c = λ bucket below. tally_whole c.args.slots.now c.loop-slot.crowds c.loop-slot.slot c.loop-slot-test.false bucket (c.loop-slot.invariant.counted bucket below)
