-- Laws of lists, for the proofs of callers: rows taken out in any order, put back under their keys, or counted.
use Rattle.sql_schema.specs.Prelude.{all_has, none_from_any, list_any, list_any-IsPermutation, AllByRecursion, match_ordering, ints, IsPermutation-refl, IsPermutation-cons, IsPermutation-trans, IsPermutation-middle, Row, put_all, put_row, IsAscending, Has, IsKeyedBy, insert_by, has_key, without_key, delete_where, update_where, all_map, all-filter, all_weaker, all_of, filter_all, filter_same, along_permutation, IsPermutation-flat_map, Less-from_lt, removes_delete, common_steps}
use Rattle.std.proofs.Common.{◌≡◌, ◌&&◌, ◌||◌, ◌≤◌, ◌<◌, ◌+◌, ◌<ℤ◌, not, inl, inr, ℕ, ℤ, List, [], ◌∷◌, length, drop, drop-cons, get_or, suc, add-one, map, filter, Bool, true, false, cond, refl, sym, ap, subst₂, ◌∙◌, arith, Ordering, Less, Equal, Greater, int_eq, int_cmp, is_eq, fold, IsPermutation, true≢false, flat_map}

pub and_true : (b : Bool) → (b && true) ≡ b
and_true true = refl
and_true false = refl

-- ---- lists of at most one item

-- at most one item is in any order
pub any_order : {X : Type 0} (R : X → X → Type 0) (xs : List X) → length xs ≤ 1 → IsAscending R xs
any_order R [] short = tt
any_order R (x ∷ []) short = (tt, tt)
any_order R (x ∷ y ∷ more) short = absurd (omega arith)

-- ---- what passes a test

pub all_passed : {X : Type 0} (P : X → Type 0) (p : X → Bool) → ((x : X) → p x ≡ true → P x) → (xs : List X) → AllByRecursion P (filter p xs)
all_passed P p gives [] = tt
all_passed P p gives (x ∷ xs) = go (p x) refl (all_passed P p gives xs)
  where
    go : (b : Bool) → p x ≡ b → AllByRecursion P (filter p xs) → AllByRecursion P (cond b (x ∷ filter p xs) (filter p xs))
    go true e more = (gives x e, more)
    go false e more = more

-- ---- membership

pub has_map : {A B : Type 0} (f : A → B) (xs : List A) (y : B) → Has (map f xs) y → (x : A) × Has xs x × (y ≡ f x)
has_map f [] y h = absurd h
has_map f (x ∷ xs) y (inl e) = (x, inl refl, e)
has_map f (x ∷ xs) y (inr h) = let it = has_map f xs y h in (it.0, inr it.1, it.2)

pub map_has : {A B : Type 0} (f : A → B) (xs : List A) (x : A) → Has xs x → Has (map f xs) (f x)
map_has f [] x h = h
map_has f (y ∷ xs) x (inl same) = inl (ap f same)
map_has f (y ∷ xs) x (inr h) = inr (map_has f xs x h)

pub has_none : {X : Type 0} (p : X → Bool) (xs : List X) (x : X) → list_any p xs ≡ false → Has xs x → p x ≡ false
has_none p xs x none = all_has (λ y. p y ≡ false) xs x (none_from_any p xs none)

-- ---- rows under their keys

pub put_all-map : {X : Type 0} (f : X → Row) (news : List X) (rows : List Row) → put_all rows (map f news) ≡ fold (λ rows x. put_row (f x) rows) rows news
put_all-map f [] rows = refl
put_all-map f (n ∷ news) rows = put_all-map f news (put_row (f n) rows)

module _ {X : Type 0} (key : X → ℤ) where
  removes_all : (ids : List ℤ) (xs : List X) → fold (without_key key) xs ids ≡ filter (λ x. not (list_any (λ id. int_eq (key x) id) ids)) xs
  removes_all [] xs = sym (filter_all _ xs (all_of (λ x. true ≡ true) (λ x. refl) xs))
  removes_all (id ∷ ids) xs = removes_all ids (without_key key xs id) ∙ both xs
    where
      both : (xs : List X) → filter (λ x. not (list_any (λ i. int_eq (key x) i) ids)) (without_key key xs id) ≡ filter (λ x. not (int_eq (key x) id || list_any (λ i. int_eq (key x) i) ids)) xs
      both [] = refl
      both (x ∷ xs) = go (int_eq (key x) id) (list_any (λ i. int_eq (key x) i) ids) refl (both xs)
        where
          go : (a b : Bool) → list_any (λ i. int_eq (key x) i) ids ≡ b
              → filter (λ x. not (list_any (λ i. int_eq (key x) i) ids)) (without_key key xs id) ≡ filter (λ x. not (int_eq (key x) id || list_any (λ i. int_eq (key x) i) ids)) xs
              → filter (λ x. not (list_any (λ i. int_eq (key x) i) ids)) (cond (not a) (x ∷ without_key key xs id) (without_key key xs id))
              ≡ cond (not (a || b)) (x ∷ filter (λ x. not (int_eq (key x) id || list_any (λ i. int_eq (key x) i) ids)) xs) (filter (λ x. not (int_eq (key x) id || list_any (λ i. int_eq (key x) i) ids)) xs)
          go true b e more = more
          go false true e more = rw e more
          go false false e more = rw e (ap (λ l. x ∷ l) more)

  -- the keys of the rows that pass, taken out in any order
  pub removes_any : (p : X → Bool) (xs : List X) → IsKeyedBy key xs → (ids : List ℤ) → IsPermutation (map key (filter p xs)) ids → fold (without_key key) xs ids ≡ delete_where p xs
  removes_any p xs up ids same =
      removes_all ids xs ∙ filter_same _ _ (λ x. ap not (sym (list_any-IsPermutation (λ id. int_eq (key x) id) _ ids same))) xs ∙ sym (removes_all (map key (filter p xs)) xs) ∙ removes_delete key p xs up

  -- a row with a new key stands somewhere among the others
  pub insert_by-permutes : (new : X) (xs : List X) → has_key key xs (key new) ≡ false → IsPermutation (insert_by key xs new) (new ∷ xs)
  insert_by-permutes new [] free = IsPermutation-refl _
  insert_by-permutes new (x ∷ xs) free = go (int_cmp (key x) (key new)) refl (insert_by-permutes new xs)
    where
      go : (o : Ordering) → int_cmp (key x) (key new) ≡ o → (has_key key xs (key new) ≡ false → IsPermutation (insert_by key xs new) (new ∷ xs))
          → IsPermutation (match_ordering o (x ∷ insert_by key xs new) (new ∷ xs) (new ∷ x ∷ xs)) (new ∷ x ∷ xs)
      go Less e more =
          let apart : int_eq (key x) (key new) ≡ false = ap is_eq e in
          IsPermutation-trans _ _ _ (IsPermutation-cons x _ _ (more (rw apart at free))) (IsPermutation-middle (x ∷ []) new xs)
      go Equal e more =
          let same : int_eq (key x) (key new) ≡ true = ap is_eq e in
          absurd (true≢false (rw same at free))
      go Greater e more = IsPermutation-refl _

  first_in : (new : X) (xs : List X) → AllByRecursion (λ y. key new <ℤ key y) xs → insert_by key xs new ≡ new ∷ xs
  first_in new [] above = refl
  first_in new (x ∷ xs) above =
      let k = above.0 in
      let here : int_cmp (key x) (key new) ≡ Greater = grind (arith, ints) in
      rw here refl

  puts_past : (news : List X) (x : X) (xs : List X) → AllByRecursion (λ n. key x <ℤ key n) news → fold (insert_by key) (x ∷ xs) news ≡ x ∷ fold (insert_by key) xs news
  puts_past [] x xs above = refl
  puts_past (n ∷ news) x xs above = rw (Less-from_lt (key x) (key n) above.0) (puts_past news x (insert_by key xs n) above.1)

  -- rows that are taken out and put back changed, with the same keys
  pub puts_back : (p : X → Bool) (f : X → X) → ((x : X) → key (f x) ≡ key x) → (xs : List X) → IsKeyedBy key xs
      → fold (insert_by key) (delete_where p xs) (map f (filter p xs)) ≡ update_where p f xs
  puts_back p f keeps [] up = refl
  puts_back p f keeps (x ∷ xs) up = go (p x) (puts_back p f keeps xs up.1)
    where
      above : (y : X) → key y ≡ key x → AllByRecursion (λ n. key y <ℤ key n) (map f (filter p xs))
      above y same = all_map _ f _ (all-filter _ p xs (all_weaker _ (λ n. key y <ℤ key (f n)) (λ n h. rw (same, keeps n) h) xs up.0))

      over : AllByRecursion (λ n. key (f x) <ℤ key n) (delete_where p xs)
      over = all-filter _ (λ n. not (p n)) xs (all_weaker _ (λ n. key (f x) <ℤ key n) (λ n h. rw (keeps x) h) xs up.0)

      go : (b : Bool) → fold (insert_by key) (delete_where p xs) (map f (filter p xs)) ≡ update_where p f xs
          → fold (insert_by key) (cond (not b) (x ∷ delete_where p xs) (delete_where p xs)) (map f (cond b (x ∷ filter p xs) (filter p xs))) ≡ cond b (f x) x ∷ update_where p f xs
      go true more = ap (λ l. fold (insert_by key) l (map f (filter p xs))) (first_in (f x) (delete_where p xs) over) ∙ puts_past _ (f x) _ (above (f x) (keeps x)) ∙ ap (λ l. f x ∷ l) more
      go false more = puts_past _ x _ (above x refl) ∙ ap (λ l. x ∷ l) more

-- ---- the items that a loop has still to come to

pub next_item : {X : Type 0} (xs : List X) (i : ℕ) (x : X) → i < length xs → x ≡ get_or xs i x → drop i xs ≡ x ∷ drop (i + 1) xs
next_item xs i x low is = drop-cons xs i x low ∙ ap (λ y. y ∷ drop (suc i) xs) (sym is) ∙ ap (λ j. x ∷ drop j xs) (sym (add-one i))
