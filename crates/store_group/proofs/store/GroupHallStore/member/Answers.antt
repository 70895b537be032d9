use Rattle.std.{specs.{Prelude.{◌≡◌}}, proofs.Common.{refl, sym, ap, subst, ◌∙◌}}
use Rattle.hall_types.specs.{Hall.pair, Rows.{at}, Tables.members}
use Rattle.store_group.specs.Group.{change, writes_of}
use Rattle.store_group.proofs.ReadLemmas.{read_same, same_members}
use Rattle.store_group.proofs.store.GroupHallStore.member.Goals as goal

pub returns : goal.returns
returns g c =
    read_same g.S.HallStore _ _ refl refl _ _
    (λ h y right. subst (λ rows. y ≡ at rows (pair c.args.pool.now c.args.operator.now)) (sym (same_members (writes_of c.args.self.now) h (sym (c.if-change_members.ensures ∙ ap (change members) c.deref.ensures.value)))) right)
    c.member.ensures
