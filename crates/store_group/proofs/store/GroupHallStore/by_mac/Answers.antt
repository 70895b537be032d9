use Rattle.std.{specs.{Prelude.{◌≡◌, option_map}}, proofs.Common.{refl, sym, ap, subst, ◌∙◌}}
use Rattle.hall_types.specs.{Rows.{at}, Tables.interfaces}
use Rattle.store_group.specs.Group.{change, writes_of}
use Rattle.store_group.proofs.ReadLemmas.{read_same, same_interfaces}
use Rattle.store_group.proofs.store.GroupHallStore.by_mac.Goals as goal

pub returns : goal.returns
returns g c =
    read_same g.S.HallStore _ _ refl refl _ _
    (λ h y right. subst (λ rows. y ≡ option_map (λ i. i.machine) (at rows c.args.mac)) (sym (same_interfaces (writes_of c.args.self.now) h (sym (c.if-change_interfaces.ensures ∙ ap (change interfaces) c.deref.ensures.value)))) right)
    c.by_mac.ensures
