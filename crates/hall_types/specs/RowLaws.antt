-- What is found where after each change of rows, and how many rows pass.
use Rattle.std.{specs.{Prelude.{◌≡◌, ◌≢◌, ℕ, ◌+◌, ◌==◌, is_some, List, Option, Some, None, Bool, true, false, if◌then◌else◌, ◌⊎◌}, declared.cmp.Ordering.{Ordering, TheVariants.{Less, Equal, Greater}}, Ordering.is_eq, Cmp.{Equal-is, tied_itself, Lexicographic.texts_ties}, Str.bytes_eq, FinMap.{get-insert, get-remove, get-empty, get-retain_keys, len-insert, len-remove, empty_of_len, same_map}}, proofs.{Common.{refl, arith, inl, inr, ◌∙◌, ap, sym}, lemmas.Bool.{both_ways, Decides.nat_tests}}}
use Rattle.std.specs.FinMap as map
use Rattle.hall_types.specs.Rows.{Keys, numbers, texts, Rows, passes, at, put, gone, no_rows, rows_where, same_key, one_if, size, how_many}

pub key-same : {K : Type 0} (keys : Keys K) (one other : K) → same_key keys one other ≡ true → one ≡ other
key-same keys one other t = keys.same one other ((Equal-is (keys.cmp one other)).0 t)

pub same-key : {K : Type 0} (keys : Keys K) (key : K) → same_key keys key key ≡ true
same-key keys key = ap is_eq (tied_itself keys.total key)

pub other-key : {K : Type 0} (keys : Keys K) (one other : K) → one ≢ other → same_key keys one other ≡ false
other-key keys one other apart = by (same_key keys one other) refl
  where
    by : (b : Bool) → same_key keys one other ≡ b → b ≡ false
    by true t = absurd (apart (key-same keys one other t))
    by false t = refl

-- numbers are told apart as numbers are
pub same_number : (one other : ℕ) → same_key numbers one other ≡ (one == other)
unfolding numbers
same_number one other = grind (arith, nat_tests)

-- texts are told apart as names are
pub same_text : (one other : List ℕ) → same_key texts one other ≡ bytes_eq one other
unfolding texts
same_text one other = sym (texts_ties one other)

module _ {K X : Type 0} {keys : Keys K} where
  pub at-put : (rows : Rows keys X) (n : K) (x : X) (q : K) → at (put n x rows) q ≡ (if same_key keys q n then Some x else at rows q)
  unfolding at put
  at-put rows n x q = get-insert keys.total rows.map n x q

  pub at-gone : (rows : Rows keys X) (n q : K) → at (gone n rows) q ≡ (if same_key keys q n then None else at rows q)
  unfolding at gone
  at-gone rows n q = get-remove keys.total rows.map n q

  pub at-rows_where : (p : X → Bool) (rows : Rows keys X) (q : K) → at (rows_where p rows) q ≡ (if passes p (at rows q) then at rows q else None)
  unfolding at rows_where
  at-rows_where p rows q =
      get-retain_keys rows.map (λ n. passes p (map.get rows.map n)) q (λ x e. ap (λ n. passes p (map.get rows.map n)) (sym (keys.same q x e)))

  -- rows with the same row at each key are the same
  pub same_rows : (a b : Rows keys X) → ((q : K) → at a q ≡ at b q) → a ≡ b
  unfolding at
  same_rows a b is = ap (λ m. record { map = m }) (same_map keys.total keys.same a.map b.map is)

pub at-no_rows : {K X : Type 0} (keys : Keys K) (q : K) (none : Rows keys X) → none ≡ no_rows → at none q ≡ None
unfolding at no_rows
at-no_rows keys q none is = ap (λ rows. map.get rows.map q) is ∙ get-empty keys.cmp q

-- what stands where after each change of rows
pub ruleset rows_after = (at-put, at-gone, at-rows_where, at-no_rows)

module _ {K X : Type 0} {keys : Keys K} where
  pub at-put-same : (rows : Rows keys X) (n : K) (x : X) → at (put n x rows) n ≡ Some x
  at-put-same rows n x = at-put rows n x n ∙ ap (λ b. if b then Some x else at rows n) (same-key keys n)

  pub at-put-other : (rows : Rows keys X) (n : K) (x : X) (q : K) → q ≢ n → at (put n x rows) q ≡ at rows q
  at-put-other rows n x q apart = at-put rows n x q ∙ ap (λ b. if b then Some x else at rows q) (other-key keys q n apart)

  pub at-gone-same : (rows : Rows keys X) (n : K) → at (gone n rows) n ≡ None
  at-gone-same rows n = at-gone rows n n ∙ ap (λ b. if b then None else at rows n) (same-key keys n)

  pub at-gone-other : (rows : Rows keys X) (n q : K) → q ≢ n → at (gone n rows) q ≡ at rows q
  at-gone-other rows n q apart = at-gone rows n q ∙ ap (λ b. if b then None else at rows q) (other-key keys q n apart)

  -- a row found after a put is the one put or the one before
  pub put_cases : (rows : Rows keys X) (n : K) (x : X) (q : K) (y : X) → at (put n x rows) q ≡ Some y → ((q ≡ n) × (y ≡ x)) ⊎ ((q ≢ n) × (at rows q ≡ Some y))
  put_cases rows n x q y is = by (same_key keys q n) refl (sym (at-put rows n x q) ∙ is)
    where
      by : (b : Bool) → same_key keys q n ≡ b → (if b then Some x else at rows q) ≡ Some y → ((q ≡ n) × (y ≡ x)) ⊎ ((q ≢ n) × (at rows q ≡ Some y))
      by true t e = let same : y ≡ x = cc in inl (key-same keys q n t, same)
      by false t e = inr (λ same. both_ways (same_key keys q n) t (ap (λ k. same_key keys k n) same ∙ same-key keys n), e)

  -- a row that is left after another went
  pub gone_found : (rows : Rows keys X) (n q : K) (y : X) → at (gone n rows) q ≡ Some y → (q ≢ n) × (at rows q ≡ Some y)
  gone_found rows n q y is = by (same_key keys q n) refl (sym (at-gone rows n q) ∙ is)
    where
      by : (b : Bool) → same_key keys q n ≡ b → (if b then None else at rows q) ≡ Some y → (q ≢ n) × (at rows q ≡ Some y)
      by true t e = cc
      by false t e = (λ same. both_ways (same_key keys q n) t (ap (λ k. same_key keys k n) same ∙ same-key keys n), e)

  pub where_found : (p : X → Bool) (rows : Rows keys X) (n : K) (x : X) → at (rows_where p rows) n ≡ Some x → (at rows n ≡ Some x) × (p x ≡ true)
  where_found p rows n x is = by_row (at rows n) (sym (at-rows_where p rows n) ∙ is)
    where
      by_pass : (y : X) (b : Bool) → p y ≡ b → (if b then Some y else None) ≡ Some x → (Some y ≡ Some x) × (p x ≡ true)
      by_pass y true t e = let same : y ≡ x = cc in (e, ap p (sym same) ∙ t)
      by_pass y false t e = cc

      by_row : (o : Option X) → (if passes p o then o else None) ≡ Some x → (o ≡ Some x) × (p x ≡ true)
      by_row None e = cc
      by_row (Some y) e = by_pass y (p y) refl e

  pub where_kept : (p : X → Bool) (rows : Rows keys X) (n : K) (x : X) → at rows n ≡ Some x → p x ≡ true → at (rows_where p rows) n ≡ Some x
  where_kept p rows n x is ok =
      at-rows_where p rows n ∙ (ap (λ o. if passes p o then o else None) is ∙ ap (λ b. if b then Some x else None) ok)

  -- a row that is put again changes nothing
  pub put_same : (rows : Rows keys X) (n : K) (x : X) → at rows n ≡ Some x → put n x rows ≡ rows
  put_same rows n x is = same_rows (put n x rows) rows (λ q. at-put rows n x q ∙ by q (same_key keys q n) refl)
    where
      by : (q : K) (b : Bool) → same_key keys q n ≡ b → (if b then Some x else at rows q) ≡ at rows q
      by q true t = sym (ap (λ k. at rows k) (key-same keys q n t) ∙ is)
      by q false t = refl

  -- ---- how many rows there are

  -- a row that passes is one among those that do
  pub rows_where-put : (p : X → Bool) (rows : Rows keys X) (n : K) (x : X) → rows_where p (put n x rows) ≡ (if p x then put n x (rows_where p rows) else gone n (rows_where p rows))
  rows_where-put p rows n x = by_pass (p x) refl
    where
      split : (q : K) → (b : Bool) → same_key keys q n ≡ b → at (rows_where p (put n x rows)) q ≡ (if b then (if p x then Some x else None) else at (rows_where p rows) q)
      split q true t =
          at-rows_where p (put n x rows) q
          ∙ ap (λ o. if passes p o then o else None) (at-put rows n x q ∙ ap (λ b. if b then Some x else at rows q) t)
      split q false t =
          at-rows_where p (put n x rows) q
          ∙ (ap (λ o. if passes p o then o else None) (at-put rows n x q ∙ ap (λ b. if b then Some x else at rows q) t)
          ∙ sym (at-rows_where p rows q))

      by_pass : (b : Bool) → p x ≡ b → rows_where p (put n x rows) ≡ (if b then put n x (rows_where p rows) else gone n (rows_where p rows))
      by_pass true t = same_rows (rows_where p (put n x rows)) (put n x (rows_where p rows)) (λ q.
          split q (same_key keys q n) refl
          ∙ (ap (λ b. if same_key keys q n then (if b then Some x else None) else at (rows_where p rows) q) t ∙ sym (at-put (rows_where p rows) n x q)))
      by_pass false t = same_rows (rows_where p (put n x rows)) (gone n (rows_where p rows)) (λ q.
          split q (same_key keys q n) refl
          ∙ (ap (λ b. if same_key keys q n then (if b then Some x else None) else at (rows_where p rows) q) t ∙ sym (at-gone (rows_where p rows) n q)))

-- ---- counts

module _ {K X : Type 0} {keys : Keys K} where
  pub size-put : (rows : Rows keys X) (n : K) (x : X) → size (put n x rows) + one_if (is_some (at rows n)) ≡ size rows + 1
  unfolding at put size
  size-put rows n x = by (map.contains_key rows.map n) refl
    where
      by : (b : Bool) → map.contains_key rows.map n ≡ b → map.len (map.insert rows.map n x) + one_if (map.contains_key rows.map n) ≡ map.len rows.map + 1
      by true t = let e = len-insert keys.total rows.map n x in rw (e, t) refl
      by false t = let e = len-insert keys.total rows.map n x in rw (e, t) (omega arith)

  pub size-gone : (rows : Rows keys X) (n : K) → size (gone n rows) + one_if (is_some (at rows n)) ≡ size rows
  unfolding at gone size
  size-gone rows n = by (map.contains_key rows.map n) refl
    where
      some : map.contains_key rows.map n ≡ true → map.len rows.map ≢ 0
      some t none = both_ways (map.contains_key rows.map n) (ap (λ m. is_some (map.get m n)) (empty_of_len rows.map none) ∙ ap is_some (get-empty keys.cmp n)) t

      by : (b : Bool) → map.contains_key rows.map n ≡ b → map.len (map.remove rows.map n) + one_if (map.contains_key rows.map n) ≡ map.len rows.map
      by true t = let e = len-remove keys.total rows.map n in let ne = some t in rw (e, t) (omega arith)
      by false t = let e = len-remove keys.total rows.map n in rw (e, t) (omega arith)

  pub where_stands : (p : X → Bool) (rows : Rows keys X) (n : K) → is_some (at (rows_where p rows) n) ≡ passes p (at rows n)
  where_stands p rows n = ap is_some (at-rows_where p rows n) ∙ by_row (at rows n)
    where
      by_pass : (b : Bool) (x : X) → is_some (if b then Some x else None) ≡ b
      by_pass true x = refl
      by_pass false x = refl

      by_row : (o : Option X) → is_some (if passes p o then o else None) ≡ passes p o
      by_row None = refl
      by_row (Some x) = by_pass (p x) x

  -- a row that is put is counted in the place of the one before
  pub how_many-put : (p : X → Bool) (rows : Rows keys X) (n : K) (x : X) → how_many p (put n x rows) + one_if (passes p (at rows n)) ≡ how_many p rows + one_if (p x)
  how_many-put p rows n x = by (p x) refl
    where
      by : (b : Bool) → p x ≡ b → size (rows_where p (put n x rows)) + one_if (passes p (at rows n)) ≡ size (rows_where p rows) + one_if b
      by true t =
          rw (rows_where-put p rows n x, t, ← where_stands p rows n) (size-put (rows_where p rows) n x)
      by false t =
          rw (rows_where-put p rows n x, t, ← where_stands p rows n) (size-gone (rows_where p rows) n ∙ omega arith)

  pub rows_where-gone : (p : X → Bool) (rows : Rows keys X) (n : K) → rows_where p (gone n rows) ≡ gone n (rows_where p rows)
  rows_where-gone p rows n = same_rows (rows_where p (gone n rows)) (gone n (rows_where p rows)) (λ q. split q (same_key keys q n) refl)
    where
      split : (q : K) (b : Bool) → same_key keys q n ≡ b → at (rows_where p (gone n rows)) q ≡ at (gone n (rows_where p rows)) q
      split q true t =
          at-rows_where p (gone n rows) q
          ∙ (ap (λ o. if passes p o then o else None) (at-gone rows n q ∙ ap (λ b. if b then None else at rows q) t)
          ∙ sym (at-gone (rows_where p rows) n q ∙ ap (λ b. if b then None else at (rows_where p rows) q) t))
      split q false t =
          at-rows_where p (gone n rows) q
          ∙ (ap (λ o. if passes p o then o else None) (at-gone rows n q ∙ ap (λ b. if b then None else at rows q) t)
          ∙ (sym (at-rows_where p rows q)
          ∙ sym (at-gone (rows_where p rows) n q ∙ ap (λ b. if b then None else at (rows_where p rows) q) t)))

  -- a row that goes is counted no more
  pub how_many-gone : (p : X → Bool) (rows : Rows keys X) (n : K) → how_many p (gone n rows) + one_if (passes p (at rows n)) ≡ how_many p rows
  how_many-gone p rows n = rw (rows_where-gone p rows n, ← where_stands p rows n) (size-gone (rows_where p rows) n)
