-- Laws of the list of all rows of a table, for the proofs of callers: what each change of rows makes of the list.
use Rattle.sql_schema.specs.{Prelude.{all_has, has_contained, has_filtered, has_kept, AllByRecursion, IsStrictlySortedBy, option_to_list, match_ordering, ordering_reverse, sorted_head, sorted_tail, IsPermutation-refl, IsPermutation-cons, IsPermutation-trans, IsPermutation-middle, IsPermutation-filter_both, IsAscending, Has, all_unmap, ascending-filter, ascending-map, ascending_weaker, Keys, Rows, at, put, gone, rows_where, listed, same_key, StandUnder, key-same, same-key, other-key, at-put, at-put-same, at-gone, at-rows_where, same_rows, passes, put_cases, gone_found, where_found, where_kept, Contains-listed, AllByRecursion-listed, IsStrictlySortedBy-listed}, ListLaws.{has_map, map_has}}
use Rattle.std.proofs.Common.{◌≡◌, ◌≢◌, ◌⊎◌, not, inl, inr, List, [], ◌∷◌, ◌++◌, map, filter, Bool, true, false, cond, if◌then◌else◌, Option, Some, None, Ordering, Less, Equal, Greater, refl, sym, ap, ap₂, subst, subst₂, ◌∙◌, IsPermutation}

-- ---- lists in the order of their keys

module _ {K X : Type 0} (keys : Keys K) (key_of : X → K) where
  -- each row's key is below those of the rows after it
  abbrev pub AreRising : List X → Type 0
  AreRising = IsAscending (λ a b. keys.cmp (key_of a) (key_of b) ≡ Less)

  -- the rows, with this one in its place, and in place of one that has its key
  abbrev pub put_in : List X → X → List X
  put_in [] new = new ∷ []
  put_in (x ∷ xs) new = match_ordering (keys.cmp (key_of x) (key_of new)) (x ∷ put_in xs new) (new ∷ xs) (new ∷ x ∷ xs)

  backwards : (one other : K) → keys.cmp one other ≡ Less → keys.cmp other one ≡ Greater
  backwards one other low = keys.total.antisymm other one ∙ ap ordering_reverse low

  not_both : (one other : K) → keys.cmp one other ≡ Less → keys.cmp other one ≡ Less → ⊥
  not_both one other low high = absurd (let e = sym (backwards one other low) ∙ high in cc)

  above : (x : X) (xs : List X) (z : X) → AllByRecursion (λ y. keys.cmp (key_of x) (key_of y) ≡ Less) xs → Has xs z → keys.cmp (key_of x) (key_of z) ≡ Less
  above x xs z all h = all_has (λ y. keys.cmp (key_of x) (key_of y) ≡ Less) xs z all h

  -- rising lists with the same members are the same
  pub same_lists : (xs ys : List X) → AreRising xs → AreRising ys → ((z : X) → Has xs z → Has ys z) → ((z : X) → Has ys z → Has xs z) → xs ≡ ys
  same_lists [] [] up rise into back = refl
  same_lists [] (y ∷ ys) up rise into back = absurd (back y (inl refl))
  same_lists (x ∷ xs) [] up rise into back = absurd (into x (inl refl))
  same_lists (x ∷ xs) (y ∷ ys) up rise into back =
      let heads : x ≡ y = first (into x (inl refl)) (back y (inl refl)) in
      ap₂ (λ a l. a ∷ l) heads (same_lists xs ys up.1 rise.1 (λ z h. rest z heads h (into z (inr h))) (λ z h. rest_back z heads h (back z (inr h))))
    where
      first : (x ≡ y) ⊎ Has ys x → (y ≡ x) ⊎ Has xs y → x ≡ y
      first (inl same) other = same
      first (inr h) (inl same) = sym same
      first (inr h) (inr h') = absurd (not_both (key_of y) (key_of x) (above y ys x rise.0 h) (above x xs y up.0 h'))

      rest : (z : X) → x ≡ y → Has xs z → (z ≡ y) ⊎ Has ys z → Has ys z
      rest z heads h (inr found) = found
      rest z heads h (inl same) = absurd (let low = subst (λ w. keys.cmp (key_of x) (key_of w) ≡ Less) (same ∙ sym heads) (above x xs z up.0 h) in not_both (key_of x) (key_of x) low low)

      rest_back : (z : X) → x ≡ y → Has ys z → (z ≡ x) ⊎ Has xs z → Has xs z
      rest_back z heads h (inr found) = found
      rest_back z heads h (inl same) = absurd (let low = subst (λ w. keys.cmp (key_of y) (key_of w) ≡ Less) (same ∙ heads) (above y ys z rise.0 h) in not_both (key_of y) (key_of y) low low)

  -- ---- a row put in its place

  all_placed : (P : X → Type 0) (xs : List X) (new : X) → P new → AllByRecursion P xs → AllByRecursion P (put_in xs new)
  all_placed P [] new fits all = (fits, tt)
  all_placed P (x ∷ xs) new fits all = go (keys.cmp (key_of x) (key_of new)) (all_placed P xs new fits all.1)
    where
      go : (o : Ordering) → AllByRecursion P (put_in xs new) → AllByRecursion P (match_ordering o (x ∷ put_in xs new) (new ∷ xs) (new ∷ x ∷ xs))
      go Less more = (all.0, more)
      go Equal more = (fits, all.1)
      go Greater more = (fits, all)

  lower : (low : X) (new : X) (xs : List X) → keys.cmp (key_of new) (key_of low) ≡ Less → AllByRecursion (λ y. keys.cmp (key_of low) (key_of y) ≡ Less) xs → AllByRecursion (λ y. keys.cmp (key_of new) (key_of y) ≡ Less) xs
  lower low new [] below all = tt
  lower low new (y ∷ ys) below all = (keys.total.trans (key_of new) (key_of low) (key_of y) below all.0, lower low new ys below all.1)

  same_above : (x new : X) (xs : List X) → key_of x ≡ key_of new → AllByRecursion (λ y. keys.cmp (key_of x) (key_of y) ≡ Less) xs → AllByRecursion (λ y. keys.cmp (key_of new) (key_of y) ≡ Less) xs
  same_above x new xs same all = subst (λ k. AllByRecursion (λ y. keys.cmp k (key_of y) ≡ Less) xs) same all

  pub AreRising-put_in : (xs : List X) (new : X) → AreRising xs → AreRising (put_in xs new)
  AreRising-put_in [] new up = (tt, tt)
  AreRising-put_in (x ∷ xs) new up = go (keys.cmp (key_of x) (key_of new)) refl (AreRising-put_in xs new up.1)
    where
      go : (o : Ordering) → keys.cmp (key_of x) (key_of new) ≡ o → AreRising (put_in xs new) → AreRising (match_ordering o (x ∷ put_in xs new) (new ∷ xs) (new ∷ x ∷ xs))
      go Less e more = (all_placed (λ y. keys.cmp (key_of x) (key_of y) ≡ Less) xs new e up.0, more)
      go Equal e more = (same_above x new xs (keys.same (key_of x) (key_of new) e) up.0, up.1)
      go Greater e more =
          let below : keys.cmp (key_of new) (key_of x) ≡ Less = keys.total.antisymm (key_of new) (key_of x) ∙ ap ordering_reverse e in
          ((below, lower x new xs below up.0), up)

  -- where the key is free, the list has one row more
  pub put_in-permutes : (new : X) (xs : List X) → ((z : X) → Has xs z → key_of z ≢ key_of new) → IsPermutation (put_in xs new) (new ∷ xs)
  put_in-permutes new [] free = IsPermutation-refl _
  put_in-permutes new (x ∷ xs) free = go (keys.cmp (key_of x) (key_of new)) refl (put_in-permutes new xs (λ z h. free z (inr h)))
    where
      go : (o : Ordering) → keys.cmp (key_of x) (key_of new) ≡ o → IsPermutation (put_in xs new) (new ∷ xs) → IsPermutation (match_ordering o (x ∷ put_in xs new) (new ∷ xs) (new ∷ x ∷ xs)) (new ∷ x ∷ xs)
      go Less e more = IsPermutation-trans _ _ _ (IsPermutation-cons x _ _ more) (IsPermutation-middle (x ∷ []) new xs)
      go Equal e more = absurd (free x (inl refl) (keys.same (key_of x) (key_of new) e))
      go Greater e more = IsPermutation-refl _

  -- ---- the list of all rows

  rising_keys : (xs : List X) → IsStrictlySortedBy keys.cmp (map key_of xs) → AreRising xs
  rising_keys [] sorted = tt
  rising_keys (x ∷ xs) sorted =
      (all_unmap (λ k. keys.cmp (key_of x) k ≡ Less) key_of xs (sorted_head keys.cmp (key_of x) (map key_of xs) sorted), rising_keys xs (sorted_tail keys.cmp (key_of x) (map key_of xs) sorted))

  module _ (rows : Rows keys X) (under : StandUnder key_of rows) where
    pub AreRising-listed : AreRising (listed rows)
    AreRising-listed = rising_keys (listed rows) (IsStrictlySortedBy-listed key_of rows under)

    -- a row that is listed stands under its key
    pub listed_at : (x : X) → Has (listed rows) x → at rows (key_of x) ≡ Some x
    listed_at x h = all_has (λ y. at rows (key_of y) ≡ Some y) (listed rows) x (AllByRecursion-listed key_of rows under) h

    -- a row that stands under a key is listed
    pub at_listed : (key : K) (x : X) → at rows key ≡ Some x → Has (listed rows) x
    at_listed key x is = has_contained (listed rows) x (Contains-listed rows key x is)

    -- the rows with a key are that of the key, or none
    pub listed_with_key : (key : K) → filter (λ x. same_key keys (key_of x) key) (listed rows) ≡ option_to_list (at rows key)
    listed_with_key key =
        same_lists _ _ (ascending-filter _ (λ x. same_key keys (key_of x) key) (listed rows) AreRising-listed) (one_rises (at rows key))
        (λ z h. let it = has_filtered (λ x. same_key keys (key_of x) key) (listed rows) z h in
        subst (λ o. Has (option_to_list o) z) (sym (subst (λ k. at rows k ≡ Some z) (key-same keys (key_of z) key it.1) (listed_at z it.0))) (inl refl))
        (λ z h. let is : at rows key ≡ Some z = only z (at rows key) h in
        has_kept (λ x. same_key keys (key_of x) key) (listed rows) z (at_listed key z is) (subst (λ k. same_key keys k key ≡ true) (sym (under key z is)) (same-key keys key)))
      where
        one_rises : (o : Option X) → AreRising (option_to_list o)
        one_rises None = tt
        one_rises (Some x) = (tt, tt)

        only : (z : X) (o : Option X) → Has (option_to_list o) z → o ≡ Some z
        only z None h = absurd h
        only z (Some x) (inl same) = ap (λ y. Some y) (sym same)
        only z (Some x) (inr h) = absurd h

    pub StandUnder-put : (x : X) → StandUnder key_of (put (key_of x) x rows)
    StandUnder-put x = λ key row is. elim (put_cases rows (key_of x) x key row is) [
      | inl it ↦ ap key_of it.1 ∙ sym it.0
      | inr it ↦ under key row it.1
    ]

    pub StandUnder-gone : (key : K) → StandUnder key_of (gone key rows)
    StandUnder-gone key = λ k row is. under k row (gone_found rows key k row is).1

    pub StandUnder-where : (p : X → Bool) → StandUnder key_of (rows_where p rows)
    StandUnder-where p = λ k row is. under k row (where_found p rows k row is).0

  -- ---- the list of all rows after a change

  module _ (rows : Rows keys X) (under : StandUnder key_of rows) where
    -- the list in order that has the rows, and no other
    listed_is : (xs : List X) → AreRising xs → ((x : X) → Has xs x → at rows (key_of x) ≡ Some x) → ((x : X) → at rows (key_of x) ≡ Some x → Has xs x) → listed rows ≡ xs
    listed_is xs up there all = same_lists (listed rows) xs (AreRising-listed rows under) up (λ x h. all x (listed_at rows under x h)) (λ x h. at_listed rows under (key_of x) x (there x h))

  module _ (rows : Rows keys X) (under : StandUnder key_of rows) where
    pub listed-where : (p : X → Bool) → listed (rows_where p rows) ≡ filter p (listed rows)
    listed-where p =
        listed_is (rows_where p rows) (StandUnder-where rows under p) (filter p (listed rows)) (ascending-filter _ p (listed rows) (AreRising-listed rows under))
        (λ x h. let it = has_filtered p (listed rows) x h in where_kept p rows (key_of x) x (listed_at rows under x it.0) it.1)
        (λ x is. let it = where_found p rows (key_of x) x is in has_kept p (listed rows) x (at_listed rows under (key_of x) x it.0) it.1)

    pub listed-gone : (key : K) → listed (gone key rows) ≡ filter (λ x. not (same_key keys (key_of x) key)) (listed rows)
    listed-gone key = ap (λ (r : Rows keys X). listed r) (same_rows (gone key rows) (rows_where others rows) (λ k. at-gone rows key k ∙ by k (at rows k) (under k) ∙ sym (at-rows_where others rows k))) ∙ listed-where others
      where
        others : X → Bool
        others x = not (same_key keys (key_of x) key)

        by : (k : K) (o : Option X) → ((x : X) → o ≡ Some x → key_of x ≡ k) → (if same_key keys k key then None else o) ≡ (if passes others o then o else None)
        by k None own = either (same_key keys k key)
          where
            either : (b : Bool) → ◌≡◌ {A = Option X} (if b then None else None) None
            either true = refl
            either false = refl
        by k (Some x) own = ap (λ q. if same_key keys q key then None else Some x) (sym (own x refl)) ∙ turned (same_key keys (key_of x) key)
          where
            turned : (b : Bool) → (if b then None else Some x) ≡ (if not b then Some x else None)
            turned true = refl
            turned false = refl

    -- where the key had a row, the new one is in its place
    pub listed-put-there : (x old : X) → at rows (key_of x) ≡ Some old → listed (put (key_of x) x rows) ≡ map (λ y. cond (same_key keys (key_of y) (key_of x)) x y) (listed rows)
    listed-put-there x old there =
        listed_is (put (key_of x) x rows) (StandUnder-put rows under x) (map swap (listed rows))
        (ascending-map _ swap (listed rows) (ascending_weaker _ _ (λ a b low. subst₂ (λ k q. keys.cmp k q ≡ Less) (sym (swap_key a)) (sym (swap_key b)) low) (listed rows) (AreRising-listed rows under)))
        (λ z h. let it = has_map swap (listed rows) z h in subst (λ w. at (put (key_of x) x rows) (key_of w) ≡ Some w) (sym it.2) (found it.0 (listed_at rows under it.0 it.1)))
        (λ z is. elim (put_cases rows (key_of x) x (key_of z) z is) [
          | inl it ↦ subst (Has (map swap (listed rows))) (ap (λ b. cond b x old) (subst (λ k. same_key keys k (key_of x) ≡ true) (sym (under (key_of x) old there)) (same-key keys (key_of x))) ∙ sym it.1)
              (map_has swap (listed rows) old (at_listed rows under (key_of x) old there))
          | inr it ↦ subst (Has (map swap (listed rows))) (ap (λ b. cond b x z) (other-key keys (key_of z) (key_of x) it.0)) (map_has swap (listed rows) z (at_listed rows under (key_of z) z it.1))
        ])
      where
        swap : X → X
        swap y = cond (same_key keys (key_of y) (key_of x)) x y

        swap_key : (y : X) → key_of (swap y) ≡ key_of y
        swap_key y = by (same_key keys (key_of y) (key_of x)) refl
          where
            by : (b : Bool) → same_key keys (key_of y) (key_of x) ≡ b → key_of (cond b x y) ≡ key_of y
            by true e = sym (key-same keys (key_of y) (key_of x) e)
            by false e = refl

        found : (y : X) → at rows (key_of y) ≡ Some y → at (put (key_of x) x rows) (key_of (swap y)) ≡ Some (swap y)
        found y is = ap (λ k. at (put (key_of x) x rows) k) (swap_key y) ∙ at-put rows (key_of x) x (key_of y) ∙ by (same_key keys (key_of y) (key_of x))
          where
            by : (b : Bool) → (if b then Some x else at rows (key_of y)) ≡ Some (cond b x y)
            by true = refl
            by false = is

  -- where the key was free, one row more
  pub listed-put-new : (rows : Rows keys X) → StandUnder key_of rows → (x : X) → at rows (key_of x) ≡ None → IsPermutation (listed (put (key_of x) x rows)) (x ∷ listed rows)
  listed-put-new rows under x free =
      let after = put (key_of x) x rows in
      let stands = StandUnder-put rows under x in
      let own = listed_with_key after stands (key_of x) ∙ ap option_to_list (at-put-same rows (key_of x) x) in
      let back = same_rows (gone (key_of x) after) rows (λ k. at-gone after (key_of x) k ∙ ap (λ o. if same_key keys k (key_of x) then None else o) (at-put rows (key_of x) x k) ∙ by k (same_key keys k (key_of x)) refl) in
      let others = sym (listed-gone after stands (key_of x)) ∙ ap (λ (r : Rows keys X). listed r) back in
      subst (IsPermutation (listed after)) (ap₂ ◌++◌ own others)
      (IsPermutation-filter_both (λ y. same_key keys (key_of y) (key_of x)) (λ y. not (same_key keys (key_of y) (key_of x))) (λ y. refl) (listed after))
    where
      by : (k : K) (b : Bool) → same_key keys k (key_of x) ≡ b → (if b then None else if b then Some x else at rows k) ≡ at rows k
      by k true e = sym (ap (at rows) (key-same keys k (key_of x) e) ∙ free)
      by k false e = refl
