-- Searches by a number, items that are picked, and tests of an order.
use Rattle.std.{proofs.{Common.{◌≡◌, ◌<◌, ◌≤◌, ◌+◌, ℕ, zero, suc, Bool, true, false, List, [], ◌∷◌, ◌++◌, length, take, get_or, refl, ap, sym, subst, ◌∙◌, arith, Bor}, lemmas.{Bool.{Decides.nat_tests, ltb-true, ltb-false}, List.{take_more, Sorted.{IsNonDecreasingBy-from_all_adjacent, IsPartitionPoint-from_clause, IsPartitionedBy-ltb}}, Fn.always_returns_same}}, specs.{Prelude.{cond, ltb, find, slice_get, Option, None, Some, ◌==◌}, Fn.{Called, ComputesKey, ComputesOnPairs, Mut}, List.{AllAdjacentBelow, IsAllAdjacentAnswer, cons_option, filter_map, Sorted.{IsNonDecreasingBy, IsPartitionPoint, IsPartitionedBy}}}}

module _ {X : Type 0} (n : X → ℕ) (id : ℕ) where
  -- the item, if it has the number
  abbrev pub if_id : Option X → Option X
  if_id None = None
  if_id (Some y) = cond (n y == id) (Some y) None

  is_more : (m low : ℕ) → ltb low id ≡ false → (low == id) ≡ false → low ≤ m → (m == id) ≡ false
  is_more m low below other up = grind (arith, nat_tests, below, other, up)

  is_less : (m : ℕ) → ltb m id ≡ true → (m == id) ≡ false
  is_less m below = grind (arith, nat_tests, below)

  none_of : (xs : List X) → ((k : ℕ) (d : X) → k < length xs → (n (get_or xs k d) == id) ≡ false) → find (λ y. n y == id) xs ≡ None
  none_of [] never = refl
  none_of (x ∷ xs) never =
      ap (λ (b : Bool). cond b (Some x) (find (λ y. n y == id) xs)) (never 0 x (omega arith))
      ∙ none_of xs (λ k d l. never (suc k) d (omega (arith, l)))

  at_first : (x : X) (xs : List X) (b : Bool) → (n x == id) ≡ b → ltb (n x) id ≡ false → IsNonDecreasingBy n (x ∷ xs)
      → cond b (Some x) (find (λ y. n y == id) xs) ≡ cond b (Some x) None
  at_first x xs true is below up = refl
  at_first x xs false other below up = none_of xs (λ k d l. is_more (n (get_or xs k d)) (n x) below other (up 0 (suc k) d (omega arith) (omega (arith, l))))

  -- the item at the place before which all are less
  found_at : (xs : List X) (place : ℕ) → IsPartitionPoint (λ y. ltb (n y) id ≡ true) (λ y. ltb (n y) id ≡ false) xs place
      → IsNonDecreasingBy n xs → find (λ y. n y == id) xs ≡ if_id (slice_get xs place)
  found_at [] place parts up = refl
  found_at (x ∷ xs) zero parts up = at_first x xs (n x == id) refl (parts.1 0 x (omega arith) (omega arith)) up
  found_at (x ∷ xs) (suc place) parts up =
      ap (λ (b : Bool). cond b (Some x) (find (λ y. n y == id) xs)) (is_less (n x) (parts.0 0 x (omega arith) (omega arith)))
      ∙ found_at xs place
      ((λ k d low high. parts.0 (suc k) d (omega arith) (omega (arith, high))), (λ k d low high. parts.1 (suc k) d (omega (arith, low)) (omega (arith, high))))
      (λ i j d le l. up (suc i) (suc j) d (omega (arith, le)) (omega (arith, l)))

  -- from the clause `partitioned` of `partition_point`, where each call tests whether n of the item is less: what is found, if that stands there
  pub found_by : {F : Type 0} {g : Mut F (Bor X × Unit {0}) Bool} {f : F} (xs : List X) (place : ℕ)
      → ((q : X → Bool) → ComputesKey g q f → IsPartitionedBy q xs → IsPartitionPoint (λ y. q y ≡ true) (λ y. q y ≡ false) xs place)
      → ((a : Bor X × Unit {0}) (r : Bool) (f' : F) → Called g f a r f' → (r ≡ ltb (n a.0.now) id) × (f' ≡ f))
      → (it : Option X) → slice_get xs place ≡ it → IsNonDecreasingBy n xs → find (λ y. n y == id) xs ≡ if_id it
  found_by xs place clause calls it is up =
      found_at xs place (IsPartitionPoint-from_clause (λ y. ltb (n y) id) xs place clause (IsPartitionedBy-ltb n xs id up) calls) up ∙ ap if_id is

-- ---- picking

module _ {X Y : Type 0} (h : X → Option Y) where
  joined : (o : Option Y) (ys zs : List Y) → cons_option o (ys ++ zs) ≡ cons_option o ys ++ zs
  joined None ys zs = refl
  joined (Some y) ys zs = refl

  picked : (xs : List X) (x : X) (o : Option Y) → h x ≡ o → filter_map h (xs ++ x ∷ []) ≡ filter_map h xs ++ cons_option o []
  picked [] x o is = ap (λ its. cons_option its []) is
  picked (y ∷ xs) x o is = ap (cons_option (h y)) (picked xs x o is) ∙ joined (h y) (filter_map h xs) (cons_option o [])

  -- of one item more
  pub picked_more : (xs : List X) (i : ℕ) (d : X) (o : Option Y) → i < length xs → h (get_or xs i d) ≡ o
      → filter_map h (take (i + 1) xs) ≡ filter_map h (take i xs) ++ cons_option o []
  picked_more xs i d o within is = ap (filter_map h) (take_more xs i d within) ∙ picked (take i xs) (get_or xs i d) o is

-- ---- a test of the order

module _ {X : Type 0} (n : X → ℕ) where
  -- from the clause `cases` of `is_sorted_by`, where each call compares n of the two items
  pub rises_by : {F : Type 0} {g : Mut F (Bor X × (Bor X × Unit {0})) Bool} {f : F} (xs : List X) (r : Bool)
      → ((e : X → X → Bool) → ComputesOnPairs g e f → IsAllAdjacentAnswer (λ x y b. b ≡ e x y) xs r)
      → ((a : Bor X × (Bor X × Unit {0})) (b : Bool) (f' : F) → Called g f a b f' → (b ≡ ltb (n a.0.now) (n a.1.0.now)) × (f' ≡ f))
      → r ≡ true → IsNonDecreasingBy n xs
  rises_by {g = g} {f = f} xs r clause calls is =
      let all : AllAdjacentBelow (λ x y. true ≡ ltb (n x) (n y)) xs (length xs) =
      subst (λ its. IsAllAdjacentAnswer (λ x y b. b ≡ ltb (n x) (n y)) xs its) is
      (clause (λ x y. ltb (n x) (n y)) (always_returns_same g (λ a b. b ≡ ltb (n a.0.now) (n a.1.0.now)) f calls)) in
      IsNonDecreasingBy-from_all_adjacent n xs (λ k d lt. let next = ltb-true (n (get_or xs k d)) (n (get_or xs (k + 1) d)) (sym (all k d lt)) in omega (arith, next))

-- ---- past the end

pub none_past : {X : Type 0} (xs : List X) (i : ℕ) → ltb i (length xs) ≡ false → slice_get xs i ≡ None
none_past [] i past = refl
none_past (x ∷ xs) zero past = absurd (omega (arith, ltb-false 0 (length (x ∷ xs)) past))
none_past (x ∷ xs) (suc i) past = none_past xs i (grind (arith, nat_tests, past))
