use Rattle.std.specs.Result.{is_ok}
use Rattle.std.proofs.Common.{◌≡◌, Some, refl, sym, ap, ◌∙◌}
use Rattle.store_group.proofs.ReadLemmas.{read_by, read_failed}
use Rattle.store_group.proofs.store.GroupHallStore.numbers.Goals as goal

some_same : {A : Type 0} (x y : A) → Some x ≡ Some y → x ≡ y
some_same x y is = cc

pub returns-in_err-numbers : goal.returns-in_err-numbers
returns-in_err-numbers g c = read_failed g.S.HallStore _ _ refl refl _ _ c.numbers.ensures _ _ c.from_residual.ensures.0

pub returns-in_err-numbers-2 : goal.returns-in_err-numbers-2
returns-in_err-numbers-2 g c = read_failed g.S.HallStore _ _ refl refl _ _ c.numbers.ensures _ _ c.from_residual-in_err-numbers-2.ensures.0

pub returns-in-Some : goal.returns-in-Some
returns-in-Some g c =
    read_by g.S.HallStore _ _ refl refl _ _ c.numbers.ensures _ _
    (λ it h leads. some_same _ _ (sym c.in-Some.is ∙ (c.in_ok-numbers-2.ensures leads.from (ap Some (rw c.in_ok-numbers.was at it.answer leads.from leads.held)) ∙ ap (λ k. Some k.last) (sym leads.led)))) (ap is_ok c.in_ok-numbers.was)

pub returns-in-None : goal.returns-in-None
returns-in-None g c = read_failed g.S.HallStore _ _ refl refl _ _ c.numbers.ensures _ _ refl
