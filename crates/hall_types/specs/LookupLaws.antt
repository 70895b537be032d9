-- What is found by what is not its key, and which machine expires next.
use Rattle.std.{specs.{Prelude.{◌≡◌, ◌≢◌, ◌≤◌, ◌<◌, ℕ, Bool, true, false, List, [], ◌∷◌, Option, Some, None, map, filter, find, if◌then◌else◌}, List.{AllByRecursion, Sorted.IsStrictlySortedBy, list_any}, Ordering.nat_cmp, Str.bytes_eq, declared.cmp.Ordering.TheVariants.Less}, proofs.{Common.{refl, arith, ◌∙◌, ap, sym, subst}, lemmas.{Bool.{both_ways, or_parts, Decides.nat_tests}, List.Elements.{All-contains, All-from_recursion}, Slice.Eq.bytes_eq-Decides}}}
use Rattle.hall_types.specs.{Rows.{Keys, numbers, Rows, at, listed}, Hall.Hall, Keyed.StandUnder, ListLaws.{AllByRecursion-listed, Contains-listed, IsStrictlySortedBy-listed}, Lookup.{is_before, is_due, is_image_used, is_named, next_expired, sooner, soonest}, declared.{image.Live.Live, machine.Machine.Machine}}

-- ---- what is found

module _ {X : Type 0} (p : X → Bool) where
  -- what is found passes, and is as all are
  pub found : (P : X → Type 0) (xs : List X) (x : X) → AllByRecursion P xs → find p xs ≡ Some x → P x × (p x ≡ true)
  found P [] x all is = cc
  found P (y ∷ ys) x all is = by (p y) refl is (found P ys x all.1)
    where
      by : (b : Bool) → p y ≡ b → (if b then Some y else find p ys) ≡ Some x → (find p ys ≡ Some x → P x × (p x ≡ true)) → P x × (p x ≡ true)
      by true t e rest = let same : y ≡ x = cc in (subst P same all.0, ap p (sym same) ∙ t)
      by false t e rest = rest e

  -- where none is found, none passes
  pub none_found : (xs : List X) → find p xs ≡ None → AllByRecursion (λ x. p x ≡ false) xs
  none_found [] is = tt
  none_found (x ∷ xs) is = by (p x) refl is (none_found xs)
    where
      by : (b : Bool) → p x ≡ b → (if b then Some x else find p xs) ≡ None → (find p xs ≡ None → AllByRecursion (λ x. p x ≡ false) xs)
          → (p x ≡ false) × AllByRecursion (λ x. p x ≡ false) xs
      by true t e rest = cc
      by false t e rest = (t, rest e)

-- where none in a list passes, each fails
all_fail : {X : Type 0} (p : X → Bool) (xs : List X) → list_any p xs ≡ false → AllByRecursion (λ x. p x ≡ false) xs
all_fail p [] is = tt
all_fail p (x ∷ xs) is = let parts = or_parts (p x) (list_any p xs) is in (parts.0, all_fail p xs parts.1)

module _ {K X : Type 0} {keys : Keys K} where
  -- what holds where there is no row with a key, and of each row under its own key, holds of the row with it
  pub row_cases : (key_of : X → K) (rows : Rows keys X) → StandUnder key_of rows → (key : K) (P : Option X → Type 0)
      → P None → ((x : X) → key_of x ≡ key → at rows (key_of x) ≡ Some x → P (Some x)) → P (at rows key)
  row_cases key_of rows under key P none some = by (at rows key) refl
    where
      by : (o : Option X) → at rows key ≡ o → P o
      by None is = none
      by (Some x) is = let own = under key x is in some x own (ap (at rows) own ∙ is)

  -- where none of all rows passes, no row does
  pub none_any : (rows : Rows keys X) (p : X → Bool) (key : K) (x : X) → list_any p (listed rows) ≡ false → at rows key ≡ Some x → p x ≡ false
  none_any rows p key x none is =
      All-contains (λ (y : X). p y ≡ false) (listed rows) x
      (All-from_recursion (λ (y : X). p y ≡ false) (listed rows) (all_fail p (listed rows) none)) (Contains-listed rows key x is)

  -- a row that is found stands under its key, and passes
  pub found_listed : (key_of : X → K) (rows : Rows keys X) → StandUnder key_of rows → (p : X → Bool) (x : X)
      → find p (listed rows) ≡ Some x → (at rows (key_of x) ≡ Some x) × (p x ≡ true)
  found_listed key_of rows under p x is =
      found p (λ row. at rows (key_of row) ≡ Some row) (listed rows) x (AllByRecursion-listed key_of rows under) is

  -- where none is found, no row passes
  pub none_listed : (rows : Rows keys X) (p : X → Bool) (key : K) (x : X) → find p (listed rows) ≡ None → at rows key ≡ Some x → p x ≡ false
  none_listed rows p key x none is =
      All-contains (λ (y : X). p y ≡ false) (listed rows) x
      (All-from_recursion (λ (y : X). p y ≡ false) (listed rows) (none_found p (listed rows) none))
      (Contains-listed rows key x is)

-- an image that isn't used is no live image, and no machine's
pub image_unused : (h : Hall) (name : List ℕ) → is_image_used h name ≡ false
    → ((arch : ℕ) (l : Live) → at h.lives arch ≡ Some l → l.image ≢ name) × ((id : ℕ) (m : Machine) → at h.machines id ≡ Some m → m.image ≢ Some name)
image_unused h name unused =
    let parts = or_parts (list_any (λ (l : Live). bytes_eq l.image name) (listed h.lives)) (list_any (λ (m : Machine). is_named m.image name) (listed h.machines)) unused in (
      λ arch l is same. both_ways (bytes_eq l.image name) (none_any h.lives (λ (x : Live). bytes_eq x.image name) arch l parts.0 is) ((bytes_eq-Decides l.image name).1 same),
      λ id m is same. both_ways (is_named m.image name) (none_any h.machines (λ (x : Machine). is_named x.image name) id m parts.1 is)
          (ap (λ o. is_named o name) same ∙ (bytes_eq-Decides name name).1 refl),
    )

-- ---- deadlines

-- a deadline isn't before one that is before it
pub is_before-asym : (a b : Option ℕ) → is_before a b ≡ true → is_before b a ≡ false
is_before-asym None b h = cc
is_before-asym (Some a) None h = refl
is_before-asym (Some a) (Some b) h = grind (arith, nat_tests)

pub is_before-itself : (a : Option ℕ) → is_before a a ≡ false
is_before-itself None = refl
is_before-itself (Some a) = grind (arith, nat_tests)

-- if the second isn't before the first, nor the third before the second, the third isn't before the first
pub is_before-trans : (a b c : Option ℕ) → is_before b a ≡ false → is_before c b ≡ false → is_before c a ≡ false
is_before-trans a b None h k = refl
is_before-trans None None (Some c) h k = k
is_before-trans None (Some b) (Some c) h k = cc
is_before-trans (Some a) None (Some c) h k = cc
is_before-trans (Some a) (Some b) (Some c) h k = grind (arith, nat_tests)

-- ---- the next machine to expire

-- no deadline of the other one is before, and if neither is before the other, its number isn't lower
abbrev pub IsNext : Machine → Machine → Type 0
IsNext m other = (is_before other.deadline m.deadline ≡ false) × (is_before m.deadline other.deadline ≡ false → m.id ≤ other.id)

-- it is recorded and due, and of all that are due it has the least deadline, and of those with the same one the least number
pub record IsNextExpired (h : Hall) (moment : ℕ) (m : Machine) : Type 0 where
  pub recorded : at h.machines m.id ≡ Some m
  pub due : is_due moment m ≡ true
  pub next : (id : ℕ) (other : Machine) → at h.machines id ≡ Some other → is_due moment other ≡ true → IsNext m other

below : (a b : ℕ) → nat_cmp a b ≡ Less → a < b
below a b is = grind (arith, nat_tests)

-- the first of a list in the order of the numbers, and what the others are to it
module _ (p : Machine → Bool) where
  first_or : (m x : Machine) (ms : List Machine) → (is_before x.deadline m.deadline ≡ false)
      → AllByRecursion (λ key. nat_cmp m.id key ≡ Less) (map (λ o. o.id) ms)
      → AllByRecursion (λ o. p o ≡ true → IsNext x o) ms
      → AllByRecursion (λ o. p o ≡ true → IsNext m o) ms
  first_or m x [] apart lower all = tt
  first_or m x (o ∷ ms) apart lower all = (
    λ passes. (is_before-trans m.deadline x.deadline o.deadline apart (all.0 passes).0, λ tied. less_le m.id o.id (below m.id o.id lower.0)),
    first_or m x ms apart lower.1 all.1,
  )
    where
      less_le : (a b : ℕ) → a < b → a ≤ b
      less_le a b l = omega arith

  least_le : (n : ℕ) → n ≤ n
  least_le n = omega arith

  none_pass : (ms : List Machine) → soonest (filter p ms) ≡ None → AllByRecursion (λ o. p o ≡ false) ms
  none_pass [] is = tt
  none_pass (o ∷ ms) is = by (p o) refl is (none_pass ms)
    where
      by : (b : Bool) → p o ≡ b → soonest (if b then o ∷ filter p ms else filter p ms) ≡ None → (soonest (filter p ms) ≡ None → AllByRecursion (λ o. p o ≡ false) ms)
          → (p o ≡ false) × AllByRecursion (λ o. p o ≡ false) ms
      by true t e rest = cc
      by false t e rest = (t, rest e)

  vacuous : (x : Machine) (ms : List Machine) → AllByRecursion (λ o. p o ≡ false) ms → AllByRecursion (λ o. p o ≡ true → IsNext x o) ms
  vacuous x [] none = tt
  vacuous x (o ∷ ms) none = (λ passes. absurd (both_ways (p o) none.0 passes), vacuous x ms none.1)

  -- what the first of a list is to all of it
  abbrev IsNextIf : (Machine → Type 0) → List Machine → Machine → Type 0
  IsNextIf P ms x = soonest (filter p ms) ≡ Some x → P x × (p x ≡ true) × AllByRecursion (λ y. p y ≡ true → IsNext x y) ms

  pub soonest_is_next : (P : Machine → Type 0) (ms : List Machine) (m : Machine)
      → AllByRecursion P ms → IsStrictlySortedBy nat_cmp (map (λ o. o.id) ms) → soonest (filter p ms) ≡ Some m
      → P m × (p m ≡ true) × AllByRecursion (λ o. p o ≡ true → IsNext m o) ms
  unfolding IsStrictlySortedBy
  soonest_is_next P [] m all sorted is = cc
  soonest_is_next P (o ∷ ms) m all sorted is = by (p o) refl is (λ x. soonest_is_next P ms x all.1 sorted.1)
    where
      own : o ≡ m → p o ≡ true → AllByRecursion (λ x. p x ≡ true → IsNext o x) ms → P m × (p m ≡ true) × AllByRecursion (λ x. p x ≡ true → IsNext m x) (o ∷ ms)
      own same t rest = subst (λ x. P x × (p x ≡ true) × AllByRecursion (λ y. p y ≡ true → IsNext x y) (o ∷ ms)) same
          (all.0, t, (λ passes. (is_before-itself o.deadline, λ tied. least_le o.id), rest))

      by_before : (x : Machine) (b : Bool) → is_before x.deadline o.deadline ≡ b → p o ≡ true → soonest (filter p ms) ≡ Some x → (if b then x else o) ≡ m
          → P x × (p x ≡ true) × AllByRecursion (λ y. p y ≡ true → IsNext x y) ms
          → P m × (p m ≡ true) × AllByRecursion (λ y. p y ≡ true → IsNext m y) (o ∷ ms)
      by_before x true before t some same rest =
          subst (λ z. P z × (p z ≡ true) × AllByRecursion (λ y. p y ≡ true → IsNext z y) (o ∷ ms)) same
          (rest.0, rest.1, (λ passes. (is_before-asym x.deadline o.deadline before, λ tied. absurd (both_ways (is_before x.deadline o.deadline) tied before)), rest.2))
      by_before x false before t some same rest = own same t (first_or o x ms before sorted.0 rest.2)

      by_rest : (r : Option Machine) → soonest (filter p ms) ≡ r → p o ≡ true → Some (sooner o r) ≡ Some m → ((x : Machine) → IsNextIf P ms x)
          → P m × (p m ≡ true) × AllByRecursion (λ y. p y ≡ true → IsNext m y) (o ∷ ms)
      by_rest None none t e rest = let same : o ≡ m = cc in own same t (vacuous o ms (none_pass ms none))
      by_rest (Some x) some t e rest =
          let same : (if is_before x.deadline o.deadline then x else o) ≡ m = cc in
          by_before x (is_before x.deadline o.deadline) refl t some same (rest x some)

      by : (b : Bool) → p o ≡ b → soonest (if b then o ∷ filter p ms else filter p ms) ≡ Some m → ((x : Machine) → IsNextIf P ms x)
          → P m × (p m ≡ true) × AllByRecursion (λ y. p y ≡ true → IsNext m y) (o ∷ ms)
      by true t e rest = by_rest (soonest (filter p ms)) refl t e rest
      by false t e rest =
          let it = rest m e in
          (it.0, it.1, (λ passes. absurd (both_ways (p o) t passes), it.2))

-- the machine that expires next is what its sentence says
pub next_expired-is : (h : Hall) → StandUnder (λ m. m.id) h.machines → (moment : ℕ) (m : Machine) → next_expired h moment ≡ Some m → IsNextExpired h moment m
unfolding numbers
next_expired-is h under moment m is =
    let it = soonest_is_next (is_due moment) (λ row. at h.machines row.id ≡ Some row) (listed h.machines) m
    (AllByRecursion-listed (λ m. m.id) h.machines under) (IsStrictlySortedBy-listed (λ m. m.id) h.machines under) is in
    record {
      recorded = it.0;
      due = it.1;
      next = λ id other there. All-contains (λ (o : Machine). is_due moment o ≡ true → IsNext m o) (listed h.machines) other
          (All-from_recursion (λ (o : Machine). is_due moment o ≡ true → IsNext m o) (listed h.machines) it.2)
          (Contains-listed h.machines id other there);
    }

-- where none expires, none is due
pub next_expired-none : (h : Hall) (moment : ℕ) (id : ℕ) (m : Machine) → next_expired h moment ≡ None → at h.machines id ≡ Some m → is_due moment m ≡ false
next_expired-none h moment id m none is =
    All-contains (λ (o : Machine). is_due moment o ≡ false) (listed h.machines) m
    (All-from_recursion (λ (o : Machine). is_due moment o ≡ false) (listed h.machines) (none_pass (is_due moment) (listed h.machines) none))
    (Contains-listed h.machines id m is)
