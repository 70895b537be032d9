-- What a store has of no machines and no interfaces.
use Rattle.std.{proofs.{Common.{◌≡◌, ℕ, List, Some, refl, sym, ap, ◌∙◌}, lemmas.Option.none-some}, specs.{HashMap.IsEmpty, FinMap.len-empty, Map.lookup, Ordering.nat_cmp, Str.bytes_eq}}
use Rattle.hall_types.specs.Rows.{at, no_rows, numbers, size, texts}
use Rattle.store_memory.specs.{Prelude.{at-no_rows, Interface, Machine, IsEarliest}, Hashed.Hashed, Held.{AreFound, IsIndex}, Table.row_in}

no_machine : (id : ℕ) (m : Machine) → at (no_rows {K = ℕ} {X = Machine} {keys = numbers}) id ≡ Some m → ⊥
no_machine id m there = none-some m (sym (at-no_rows numbers id no_rows refl) ∙ there)

pub new_index : (index : Hashed (List ℕ) ℕ) → IsEmpty index → IsIndex index no_rows
new_index index empty uuid id = (
  λ found. absurd (none-some id (sym (ap (λ es. row_in (lookup (bytes_eq uuid) es)) empty) ∙ found)),
  λ there. absurd (no_machine id there.0 there.1),
)

pub new_count : 0 ≡ size (no_rows {K = ℕ} {X = Machine} {keys = numbers})
unfolding size no_rows numbers
new_count = sym (len-empty nat_cmp Machine)

pub new_earliest : (earliest : ℕ) → IsEarliest earliest no_rows
new_earliest earliest id m there deadline is = absurd (no_machine id m there)

pub none_found : (table : Hashed (List ℕ) Interface) → IsEmpty table → AreFound table no_rows
none_found table empty mac = ap (λ es. row_in (lookup (bytes_eq mac) es)) empty ∙ sym (at-no_rows texts mac no_rows refl)
