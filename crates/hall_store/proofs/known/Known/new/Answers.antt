use Rattle.std.{specs.Prelude.{Option, IfSome, Some, None}, proofs.{Common.refl, lemmas.List.Elements.All-replicate}}
use Rattle.hall_store.specs.Known.{IsOf}
use Rattle.hall_store.proofs.known.Known.new.Goals as goal

by_case : {X : Type 0} (P : Option X → Type 0) → P None → ((x : X) → P (Some x)) → (o : Option X) → P o
by_case P none some None = none
by_case P none some (Some x) = some x

pub returns : goal.returns
returns c h = rw (c.in_ok-from_elem.ensures.items_if_clones_equal (by_case _ (λ e. refl) (λ x e. absurd e))) (All-replicate (λ slot. IfSome slot (IsOf h)) 16384 None tt)
