-- The last list of a hall.
use Rattle.std.proofs.Common.{◌≡◌, Option, None, Some, arith, refl, subst, sym}
use Rattle.std.specs.List.Sorted.{IsNonDecreasingBy}
use Rattle.hallview_state.specs.{Taken.{IsLast, listed_in}, declared.list.List.{List as Last}}

-- the numbers of its machines rise
pub rises : (list : Option Last) → IsNonDecreasingBy (λ one. one.machine.id) (listed_in list)
rises None = λ i j d le lt. absurd (omega (arith, lt))
rises (Some list) = list.rising

-- one with the same machines
pub comes_again : (was : Option Last) (old new : Last) → was ≡ Some old → new.machines.items ≡ old.machines.items → IsLast (listed_in was) new.at new.took (Some new)
comes_again was old new is same = subst (λ list. IsLast (listed_in list) new.at new.took (Some new)) (sym is) (new, refl, same, refl, refl)
