use Rattle.std.proofs.Common.{◌≡◌, ◌==◌, map, refl, ap, sym, ◌∙◌}
use Rattle.store_memory.{specs.Table.unless_gone, proofs.TableLemmas.{mapped_from_retain_pairs, row_cleared, slot_kept}}
use Rattle.store_memory.proofs.hashed.clear_machine.Given as given
use Rattle.store_memory.proofs.hashed.clear_machine.Goals as goal

-- the closure keeps its machine from call to call, and each slot with the row unless it goes
mapped : (g : given.Over) (c : goal.After-retain g) → c.retain.new.self.entries ≡ map (λ e. (e.0, unless_gone (λ x. g.X.OfMachine.owner x == c.args.machine) e.1)) c.args.table.now.entries
mapped g c =
    mapped_from_retain_pairs _ (λ f. f.0.now ≡ c.args.machine) (unless_gone (λ x. g.X.OfMachine.owner x == c.args.machine))
    (λ h k v b w h' i t.
    let said = t.called.met in (
      said.1.0,
      sym t.leaves
          ∙ (said.1.1
          ∙ (ap (λ n. unless_gone (λ x. g.X.OfMachine.owner x == n) t.value.now) i
          ∙ ap (unless_gone (λ x. g.X.OfMachine.owner x == c.args.machine)) t.shows.1)),
      ap (λ f. f.now) said.0 ∙ i,
    ))
    _ c.args.table.now.entries c.retain.new.self.entries refl c.retain.ensures.filtered

pub returns-clause-clears : goal.returns-clause-clears
returns-clause-clears g c = λ key. row_cleared (g.K.PartialEq.eq key) (λ x. g.X.OfMachine.owner x == c.args.machine) c.args.table.now.entries c.retain.new.self.entries (mapped g c)

pub returns-clause-slots : goal.returns-clause-slots
returns-clause-slots g c = λ key. slot_kept (g.K.PartialEq.eq key) (λ x. g.X.OfMachine.owner x == c.args.machine) c.args.table.now.entries c.retain.new.self.entries (mapped g c)
