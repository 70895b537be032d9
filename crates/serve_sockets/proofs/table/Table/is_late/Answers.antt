use Rattle.std.proofs.Common.{List, Option, ap, slice_get, sym, ◌∙◌}
use Rattle.serve_sockets.{specs.{Table.slots_of, declared.connection.Connection.Connection}, proofs.TableLemmas.{late_held, late_marked}}
use Rattle.serve_sockets.proofs.table.Table.is_late.Goals as goal

pub returns-then-not-is_marked : goal.returns-then-not-is_marked
returns-then-not-is_marked g c =
    late_held (slots_of c.args.self.now) c.args.marks.now c.args.now c.args.slot c.is_marked.result c.is_late_held.result _ c.is_marked.ensures
    (ap (λ (all : List (Option (Connection g.row.T.Denot))). slice_get all c.args.slot) (sym c.as_slice.ensures.value) ∙ sym c.held_at.ensures)
    c.if-not-is_marked.true c.is_late_held.ensures

pub returns-else-not-is_marked : goal.returns-else-not-is_marked
returns-else-not-is_marked g c =
    late_marked (slots_of c.args.self.now) c.args.marks.now c.args.now c.args.slot c.is_marked.result c.is_marked.ensures c.if-not-is_marked.false
