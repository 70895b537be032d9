-- Interfaces sorted by machine: those of one machine stand together.
use Rattle.std.{proofs.{Common.{◌≡◌, ◌<◌, ◌+◌, ℕ, suc, Bool, true, false, List, [], ◌∷◌, ◌++◌, length, get_or, refl, sym, ap, subst, ◌∙◌, arith}, lemmas.{Bool.Decides.nat_tests, List.{take-append-drop, append-nil, get_or-take, get_or-drop, length-take, length-drop, Elements.{filter-append, filter_agree}}}}, specs.{Prelude.{filter, take, drop, cond, leb, ltb, not, Result, Ok, Err, OnOk, ◌==◌, ◌&&◌}, Ordering.{is_lt, nat_cmp}, List.Sorted.{IsPartitionPoint, IsStableByKey, ties}}}

module _ {X : Type 0} (p : X → Bool) where
  pub filter_none : (xs : List X) → ((k : ℕ) (d : X) → k < length xs → p (get_or xs k d) ≡ false) → filter p xs ≡ []
  filter_none [] h = refl
  filter_none (x ∷ xs) h =
      ap (λ (b : Bool). cond b (x ∷ filter p xs) (filter p xs)) (h 0 x (omega arith))
      ∙ filter_none xs (λ k d l. h (suc k) d (omega (arith, l)))

  pub filter_all : (xs : List X) → ((k : ℕ) (d : X) → k < length xs → p (get_or xs k d) ≡ true) → filter p xs ≡ xs
  filter_all [] h = refl
  filter_all (x ∷ xs) h =
      ap (λ (b : Bool). cond b (x ∷ filter p xs) (filter p xs)) (h 0 x (omega arith))
      ∙ ap (λ (ys : List X). x ∷ ys) (filter_all xs (λ k d l. h (suc k) d (omega (arith, l))))

  -- what passes the test stands first in a list
  first_pass : (ys : List X) (count : ℕ)
      → ((k : ℕ) (d : X) → k < length (take count ys) → p (get_or (take count ys) k d) ≡ true)
      → ((k : ℕ) (d : X) → k < length (drop count ys) → p (get_or (drop count ys) k d) ≡ false)
      → filter p ys ≡ take count ys
  first_pass ys count own above =
      ap (λ (zs : List X). filter p zs) (sym (take-append-drop count ys))
      ∙ filter-append p (take count ys) (drop count ys)
      ∙ ap (λ (zs : List X). zs ++ filter p (drop count ys)) (filter_all (take count ys) own)
      ∙ ap (λ (zs : List X). take count ys ++ zs) (filter_none (drop count ys) above)
      ∙ append-nil (take count ys)

  -- what passes the test stands together
  pub together : (xs : List X) (first count : ℕ)
      → ((k : ℕ) (d : X) → k < length (take first xs) → p (get_or (take first xs) k d) ≡ false)
      → ((k : ℕ) (d : X) → k < length (take count (drop first xs)) → p (get_or (take count (drop first xs)) k d) ≡ true)
      → ((k : ℕ) (d : X) → k < length (drop count (drop first xs)) → p (get_or (drop count (drop first xs)) k d) ≡ false)
      → take count (drop first xs) ≡ filter p xs
  together xs first count below own above =
      sym (
      ap (λ (zs : List X). filter p zs) (sym (take-append-drop first xs))
      ∙ filter-append p (take first xs) (drop first xs)
      ∙ ap (λ (zs : List X). zs ++ filter p (drop first xs)) (filter_none (take first xs) below)
      ∙ first_pass (drop first xs) count own above
      )

module _ {X : Type 0} (n : X → ℕ) (id : ℕ) where
  is_id : (m : ℕ) → ltb m id ≡ false → leb m id ≡ true → (m == id) ≡ true
  is_id m below above = grind (arith, nat_tests, below, above)

  is_less : (m : ℕ) → ltb m id ≡ true → (m == id) ≡ false
  is_less m below = grind (arith, nat_tests, below)

  is_more : (m : ℕ) → leb m id ≡ false → (m == id) ≡ false
  is_more m above = grind (arith, nat_tests, above)

  between : (xs : List X) (first count : ℕ)
      → IsPartitionPoint (λ y. ltb (n y) id ≡ true) (λ y. ltb (n y) id ≡ false) xs first
      → IsPartitionPoint (λ y. leb (n y) id ≡ true) (λ y. leb (n y) id ≡ false) (drop first xs) count
      → take count (drop first xs) ≡ filter (λ y. n y == id) xs
  between xs first count lower upper =
      together (λ y. n y == id) xs first count
      (λ k d l. let inside : k < first = omega (arith, l, length-take first xs) in
      ap (λ (y : X). n y == id) (get_or-take first xs k d inside) ∙ is_less (n (get_or xs k d)) (lower.0 k d (omega arith) inside))
      (λ k d l. let inside : k < count = omega (arith, l, length-take count (drop first xs)) in
      let within : k < length (drop first xs) = omega (arith, l, length-take count (drop first xs)) in
      let at = get_or-take count (drop first xs) k d inside in
      let from = get_or-drop first xs k d in
      ap (λ (y : X). n y == id) at
      ∙ is_id (n (get_or (drop first xs) k d))
      (ap (λ (y : X). ltb (n y) id) from ∙ lower.1 (first + k) d (omega arith) (omega (arith, within, length-drop first xs)))
      (upper.0 k d (omega arith) inside))
      (λ k d l. let within : count + k < length (drop first xs) = omega (arith, l, length-drop count (drop first xs)) in
      ap (λ (y : X). n y == id) (get_or-drop count (drop first xs) k d)
      ∙ is_more (n (get_or (drop first xs) (count + k) d)) (upper.1 (count + k) d (omega arith) within))

  -- between what is below a number and what is above it stands what has it
  pub own_part : (xs rest own : List X) (first count : ℕ) → rest ≡ drop first xs → own ≡ take count rest
      → IsPartitionPoint (λ y. ltb (n y) id ≡ true) (λ y. ltb (n y) id ≡ false) xs first
      → IsPartitionPoint (λ y. leb (n y) id ≡ true) (λ y. leb (n y) id ≡ false) rest count
      → own ≡ filter (λ y. n y == id) xs
  own_part xs rest own first count later its lower upper =
      its ∙ ap (λ (ys : List X). take count ys) later
      ∙ between xs first count lower (subst (λ ys. IsPartitionPoint (λ y. leb (n y) id ≡ true) (λ y. leb (n y) id ≡ false) ys count) later upper)

-- ---- sorting

tie_is : (id m : ℕ) → (m == id) ≡ not (is_lt (nat_cmp id m)) && not (is_lt (nat_cmp m id))
tie_is id m = grind (arith, nat_tests)

-- a stable sort by a number keeps the order of those that have it
pub same_of : {X : Type 0} (n : X → ℕ) (one : X) (xs ys : List X) → IsStableByKey n nat_cmp xs ys
    → filter (λ y. n y == n one) ys ≡ filter (λ y. n y == n one) xs
same_of n one xs ys stable =
    filter_agree (λ y. n y == n one) (ties (λ x y. is_lt (nat_cmp (n x) (n y))) one) (λ y. tie_is (n one) (n y)) ys
    ∙ stable one
    ∙ sym (filter_agree (λ y. n y == n one) (ties (λ x y. is_lt (nat_cmp (n x) (n y))) one) (λ y. tie_is (n one) (n y)) xs)
