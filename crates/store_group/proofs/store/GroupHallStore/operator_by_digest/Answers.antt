use Rattle.std.{specs.{Prelude.{◌≡◌, find}, Str.bytes_eq}, proofs.Common.{refl, sym, ap, subst, ◌∙◌}}
use Rattle.hall_types.specs.{Rows.{listed}, Tables.operators}
use Rattle.store_group.specs.Group.{change, writes_of}
use Rattle.store_group.proofs.ReadLemmas.{read_same, same_operators}
use Rattle.store_group.proofs.store.GroupHallStore.operator_by_digest.Goals as goal

pub returns : goal.returns
returns g c =
    read_same g.S.HallStore _ _ refl refl _ _
    (λ h y right. subst (λ rows. y ≡ find (λ o. bytes_eq o.digest c.args.digest.now) (listed rows)) (sym (same_operators (writes_of c.args.self.now) h (sym (c.if-change_operators.ensures ∙ ap (change operators) c.deref.ensures.value)))) right)
    c.operator_by_digest.ensures
