use Rattle.std.{proofs.Common.{◌≡◌, rules, ap, sym, subst, ◌∙◌}, specs.Vec.Iter.into_iter_items}
use Rattle.store_memory.{specs.{Prelude.{applied, written, AllKeep}, Held.HaveAllSlots}, proofs.SlotLemmas.slots_kept}
use Rattle.store_memory.proofs.memory.MemoryStore.write_all.Goals as goal

pub writes-init : goal.writes-init
writes-init c =
    let e : into_iter_items c.into_iter-write-iterator.result ≡ c.args.writes.items = search rules in (
      subst (λ xs. HaveAllSlots xs c.args.self.now) (sym e) c.requires,
      λ h held keep. (h, held, subst (λ xs. AllKeep xs h) (sym e) keep, ap (λ xs. applied xs h) e),
    )

pub writes-preserved : goal.writes-preserved
writes-preserved c =
    let e = c.in-Some.ensures.steps.0 in
    let rest = into_iter_items c.next.new.self in
    let slots = subst (λ xs. HaveAllSlots xs c.writes.self) e c.writes.invariant.0 in (
      slots_kept rest c.writes.self c.write.new.self c.write.ensures.slots slots.1,
      λ h held keep.
          let it = c.writes.invariant.1 h held keep in
          let kept = subst (λ xs. AllKeep xs it.0) e it.2 in
          (written c.in-Some.write it.0, c.write.ensures.held it.0 it.1 kept.0, kept.1, ap (λ xs. applied xs it.0) (sym e) ∙ it.3),
    )
