use Rattle.std.proofs.Common.{arith}
use Rattle.serve_sockets.{specs.Ring.ready_of, proofs.MarksLemmas.{Change, block_few, block_some, blocks_down, blocks_up, total_down, total_few, total_some, total_up}}
use Rattle.serve_sockets.proofs.ring.Ring.set.Goals as goal
use Rattle.serve_sockets.proofs.ring.Ring.set.Goals.{After-index_mut}

change : (c : After-index_mut) → Change (ready_of c.args.self.now) c.args.self.now.counts c.args.self.now.total c.args.seat c.index.result.now c.args.is
change c = record {
  counted = c.args.self.now.counted;
  all = c.args.self.now.all;
  few = omega arith;
  inside = omega arith;
  block = omega arith;
  read = c.index.ensures;
  differs = c.if-index-is.true;
}

pub overflow_add-self : goal.overflow_add-self
overflow_add-self c = omega (arith, block_few (change (goal.at.overflow_add-self c).After-index_mut))

pub overflow_add-self-then-is : goal.overflow_add-self-then-is
overflow_add-self-then-is c = omega (arith, total_few (change (goal.at.overflow_add-self-then-is c).After-index_mut))

pub overflow_sub-self : goal.overflow_sub-self
overflow_sub-self c = block_some (change (goal.at.overflow_sub-self c).After-index_mut) c.if-is.false

pub overflow_sub-self-else-is : goal.overflow_sub-self-else-is
overflow_sub-self-else-is c = total_some (change (goal.at.overflow_sub-self-else-is c).After-index_mut) c.if-is.false

pub invariant_of-self-clause-counted : goal.invariant_of-self-clause-counted
invariant_of-self-clause-counted c = blocks_up (change (goal.at.invariant_of-self-clause-counted c).After-index_mut) c.if-is.true

pub invariant_of-self-clause-all : goal.invariant_of-self-clause-all
invariant_of-self-clause-all c = total_up (change (goal.at.invariant_of-self-clause-all c).After-index_mut) c.if-is.true

pub invariant_of-self-else-is-clause-counted : goal.invariant_of-self-else-is-clause-counted
invariant_of-self-else-is-clause-counted c = blocks_down (change (goal.at.invariant_of-self-else-is-clause-counted c).After-index_mut) c.if-is.false

pub invariant_of-self-else-is-clause-all : goal.invariant_of-self-else-is-clause-all
invariant_of-self-else-is-clause-all c = total_down (change (goal.at.invariant_of-self-else-is-clause-all c).After-index_mut) c.if-is.false
