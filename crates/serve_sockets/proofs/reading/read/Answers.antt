use Rattle.std.proofs.{Common.{sym}, lemmas.List.length-take-le}
use Rattle.serve_sockets.proofs.ConnectionLemmas.{has_room, moved, moved_none, smaller_within, within_more}
use Rattle.serve_sockets.proofs.reading.read.Goals as goal

pub slice_bounds-read-end : goal.slice_bounds-read-end
slice_bounds-read-end g c = smaller_within _ _ _ c.min-size.ensures

pub slice_bounds-read-end-2 : goal.slice_bounds-read-end-2
slice_bounds-read-end-2 g c = sym (length-take-le _ _ (smaller_within _ _ _ c.min-size.ensures))

pub returns-then-count-eq0-clause-taken : goal.returns-then-count-eq0-clause-taken
returns-then-count-eq0-clause-taken g c = (
  moved_none _ _ c.args.partial.now c.in-Ok.count c.read.new.buf c.in-Ok.ensures.bytes.0 c.if-count-eq0.true,
  c.in-Ok.ensures.bytes.1 c.if-count-eq0.true (has_room _ _ _ _ c.min-size.ensures c.read.auto.buf c.if-size-eq0.false),
)

pub slice_bounds-add-end : goal.slice_bounds-add-end
slice_bounds-add-end g c = within_more _ _ _ c.in-Ok.ensures.bound.0

pub slice_bounds-add-end-2 : goal.slice_bounds-add-end-2
slice_bounds-add-end-2 g c = sym (length-take-le _ _ (within_more _ _ _ c.in-Ok.ensures.bound.0))

pub returns-in-Ok-true-clause-taken : goal.returns-in-Ok-true-clause-taken
returns-in-Ok-true-clause-taken g c = (
  moved _ _ c.args.partial.now _ c.read.new.buf _ c.in-Ok.count c.in-Ok.ensures.bound.0 c.in-Ok.ensures.bytes.0 c.in-Ok-true.ensures.added,
  c.in-Ok-true.ensures.decided c.in-Ok-true.field-0-test,
)

pub returns-in-Ok-false-clause-taken : goal.returns-in-Ok-false-clause-taken
returns-in-Ok-false-clause-taken g c =
    moved _ _ c.args.partial.now _ c.read.new.buf _ c.in-Ok.count c.in-Ok.ensures.bound.0 c.in-Ok.ensures.bytes.0 c.in-Ok-false.ensures.added
