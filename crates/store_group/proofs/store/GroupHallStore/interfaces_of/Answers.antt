use Rattle.std.{specs.{Prelude.{◌≡◌, ◌==◌, filter}}, proofs.Common.{refl, sym, ap, subst, ◌∙◌}}
use Rattle.hall_types.specs.{Rows.{listed}, Tables.interfaces}
use Rattle.store_group.specs.Group.{change, writes_of}
use Rattle.store_group.proofs.ReadLemmas.{read_same, same_interfaces}
use Rattle.store_group.proofs.store.GroupHallStore.interfaces_of.Goals as goal

pub returns : goal.returns
returns g c =
    read_same g.S.HallStore _ _ refl refl _ _
    (λ h y right. subst (λ rows. y.items ≡ filter (λ i. i.machine == c.args.id) (listed rows)) (sym (same_interfaces (writes_of c.args.self.now) h (sym (c.if-change_interfaces.ensures ∙ ap (change interfaces) c.deref.ensures.value)))) right)
    c.interfaces_of.ensures
