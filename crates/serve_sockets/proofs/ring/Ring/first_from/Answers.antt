use Rattle.std.proofs.Common.{◌∙◌, ◌*◌, ◌+◌, max, sym}
use Rattle.serve_sockets.{specs.{Marks.AreClear, Ring.ready_of}, proofs.MarksLemmas.{clear_block, clear_rest}}
use Rattle.serve_sockets.proofs.ring.Ring.first_from.Goals as goal
use Rattle.serve_sockets.proofs.ring.Ring.first_from.Goals.{then-self-block-ne0+in_default, else-self-block-ne0}

pub loop-block-preserved : goal.loop-block-preserved
loop-block-preserved c =
    let marks = ready_of c.args.self.now in
    let block = c.loop-block.block in
    elim c.if-self-block-ne0.branch [
      | then-self-block-ne0+in_default w ↦
          let rest : AreClear marks (max c.args.from (64 * block)) (64 * block + 64) = rw (← c.as_slice-ready.ensures.value, ← w.max.ensures) w.in_default.ensures.none in
          clear_rest marks c.args.from block c.loop-block.invariant rest
      | else-self-block-ne0 w ↦
          clear_block marks c.args.from block c.loop-block.invariant (sym (c.args.self.now.counted block) ∙ w.if-self-block-ne0.false)
    ]
