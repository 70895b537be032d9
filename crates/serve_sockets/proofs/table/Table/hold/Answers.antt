use Rattle.std.{proofs.{Common.{◌∙◌, Some, ap, arith, is_some, refl, slice_set, sym}, lemmas.Option.slice_get_read}, specs.Int.from_bool}
use Rattle.serve_sockets.{specs.Table.slots_of, proofs.TableLemmas.{count_fits, count_held}}
use Rattle.serve_sockets.proofs.table.Table.hold.Goals as goal

pub overflow_add-self : goal.overflow_add-self
overflow_add-self g c = count_fits (slots_of c.args.self.now) c.args.self.now.taken _ c.is_some.result c.args.self.now.counted (omega (arith, c.args.self.now.few)) c.from.ensures

pub overflow_sub-self : goal.overflow_sub-self
overflow_sub-self g c =
    (count_held (slots_of c.args.self.now) c.args.self.now.taken c.args.slot c.from.result c.from-2.result c.index_mut.result.now c.replace-before.new.dest
    c.requires c.index_mut.ensures.value c.args.self.now.counted (c.from.ensures ∙ ap from_bool (c.is_some.ensures ∙ ap is_some (sym c.replace-before.ensures.after)))
    (c.from-2.ensures ∙ ap from_bool (c.is_some-2.ensures ∙ ap is_some c.replace-before.ensures.value))).0

pub invariant_of-self : goal.invariant_of-self
invariant_of-self g c = record {
  some = c.args.self.now.some;
  few = c.args.self.now.few;
  counted = (count_held (slots_of c.args.self.now) c.args.self.now.taken c.args.slot c.from.result c.from-2.result c.index_mut.result.now c.replace-before.new.dest
      c.requires c.index_mut.ensures.value c.args.self.now.counted (c.from.ensures ∙ ap from_bool (c.is_some.ensures ∙ ap is_some (sym c.replace-before.ensures.after)))
      (c.from-2.ensures ∙ ap from_bool (c.is_some-2.ensures ∙ ap is_some c.replace-before.ensures.value))).1;
}

pub returns-clause-before : goal.returns-clause-before
returns-clause-before g c = slice_get_read (slots_of c.args.self.now) _ _ _ refl c.requires c.index_mut.ensures.value ∙ ap Some (sym c.replace-before.ensures.value)

pub returns-clause-after : goal.returns-clause-after
returns-clause-after g c = ap (slice_set (slots_of c.args.self.now) c.args.slot) c.replace-before.ensures.after
