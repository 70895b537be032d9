use Rattle.std.proofs.Common.{◌≡◌, Option, Some, None, List, ℕ, refl, sym, true≢false}
use Rattle.hall_http.proofs.value.uuid_octets.Goals as goal

none_from : (o : Option (List ℕ)) → ((u : List ℕ) → o ≡ Some u → ⊥) → o ≡ None
none_from None h = refl
none_from (Some u) h = absurd (h u refl)

pub returns-in-Err : goal.returns-in-Err
returns-in-Err c = sym (none_from _ (λ u e. true≢false (sym (c.in-Err.ensures.ok.1 (u, e)))))
