-- What a list of all rows holds: each row once, in the order of the keys.
use Rattle.std.{specs.{Prelude.{◌≡◌, zero, suc, List, [], ◌∷◌, Option, Some, None, Bool, true, false, ◌&&◌, if◌then◌else◌, IsTrue, map, length, Contains, filter}, List.{AllByRecursion, Sorted.IsStrictlySortedBy}, declared.cmp.Ordering.{Ordering, TheVariants.{Less, Equal, Greater}}, Ordering.{is_lt, is_eq, ordering_reverse, eq_by_cmp}, FinMap.{FinMap, find, is_sorted, entries_sorted, get-entries, len-entries, same_map, get-retain_keys, get-from_sorted, entries-from_sorted, Entries.{below_all, where_key, is_sorted-where_key, find-where_key}}}, proofs.{Math.Dec.T, Common.{refl, arith, ◌∙◌, ap, sym}, lemmas.Bool.and_parts}}
use Rattle.std.specs.FinMap as map
use Rattle.hall_types.specs.{Rows.{Keys, Rows, at, listed, same_key, passes, rows_where, size, how_many}, RowLaws.same-key, Keyed.StandUnder}

is_true : (b : Bool) → T b → IsTrue b
is_true true h = refl
is_true false h = absurd h

less : (o : Ordering) → IsTrue (is_lt o) → o ≡ Less
less Less h = refl
less other h = cc

-- a key after another one is not the same
apart : {K : Type 0} (keys : Keys K) (key later : K) → keys.cmp key later ≡ Less → same_key keys later key ≡ false
apart keys key later below = ap is_eq (keys.total.antisymm later key ∙ ap ordering_reverse below)

module _ {K X : Type 0} (keys : Keys K) where
  all_below : (key : K) (es : List (K × X)) → IsTrue (below_all keys.cmp key es) → AllByRecursion (λ (e : K × X). keys.cmp key e.0 ≡ Less) es
  all_below key [] h = tt
  all_below key (e ∷ es) h = (less (keys.cmp key e.0) (and_parts _ _ h).0, all_below key es (and_parts _ _ h).1)

  past : (first : K × X) (all es : List (K × X)) → AllByRecursion (λ (e : K × X). keys.cmp first.0 e.0 ≡ Less) es
      → AllByRecursion (λ (e : K × X). find keys.cmp e.0 all ≡ Some e.1) es → AllByRecursion (λ (e : K × X). find keys.cmp e.0 (first ∷ all) ≡ Some e.1) es
  past first all [] below stand = tt
  past first all (e ∷ es) below stand =
      (ap (λ b. if b then Some first.1 else find keys.cmp e.0 all) (apart keys first.0 e.0 below.0) ∙ stand.0, past first all es below.1 stand.1)

  all_stand : (es : List (K × X)) → IsTrue (is_sorted keys.cmp es) → AllByRecursion (λ (e : K × X). find keys.cmp e.0 es ≡ Some e.1) es
  all_stand [] h = tt
  all_stand (e ∷ es) h =
      (ap (λ b. if b then Some e.1 else find keys.cmp e.0 es) (same-key keys e.0), past e es es (all_below e.0 es (and_parts _ _ h).0) (all_stand es (and_parts _ _ h).1))

  later : (row other : X) (rows : List X) → Contains rows row → Contains (other ∷ rows) row
  later row other rows found = (suc found.0, omega (arith, found.1), found.2)

  found_listed : (key : K) (row : X) (es : List (K × X)) → find keys.cmp key es ≡ Some row → Contains (map (λ (e : K × X). e.1) es) row
  found_listed key row [] is = cc
  found_listed key row (e ∷ es) is = by (eq_by_cmp keys.cmp key e.0) is (found_listed key row es)
    where
      by : (b : Bool) → (if b then Some e.1 else find keys.cmp key es) ≡ Some row
          → (find keys.cmp key es ≡ Some row → Contains (map (λ (e : K × X). e.1) es) row) → Contains (map (λ (e : K × X). e.1) (e ∷ es)) row
      by true same rest = let it : e.1 ≡ row = cc in (zero, omega arith, it)
      by false found rest = later row e.1 (map (λ (e : K × X). e.1) es) (rest found)

  by_keys : (look : K → Option X) (key_of : X → K) (all es : List (K × X))
      → ((key : K) → look key ≡ find keys.cmp key all)
      → ((key : K) (row : X) → look key ≡ Some row → key_of row ≡ key)
      → AllByRecursion (λ (e : K × X). find keys.cmp e.0 all ≡ Some e.1) es
      → AllByRecursion (λ row. look (key_of row) ≡ Some row) (map (λ (e : K × X). e.1) es)
  by_keys look key_of all [] looks under stand = tt
  by_keys look key_of all (e ∷ es) looks under stand =
      (ap look (under e.0 e.1 (looks e.0 ∙ stand.0)) ∙ (looks e.0 ∙ stand.0), by_keys look key_of all es looks under stand.1)

  rising : (key_of : X → K) (all es : List (K × X))
      → ((key : K) (row : X) → find keys.cmp key all ≡ Some row → key_of row ≡ key)
      → AllByRecursion (λ (e : K × X). find keys.cmp e.0 all ≡ Some e.1) es
      → IsTrue (is_sorted keys.cmp es)
      → IsStrictlySortedBy keys.cmp (map key_of (map (λ (e : K × X). e.1) es))
  unfolding IsStrictlySortedBy
  rising key_of all [] under stand sorted = tt
  rising key_of all (e ∷ es) under stand sorted =
      (above key_of all e es under stand.0 stand.1 (all_below e.0 es (and_parts _ _ sorted).0), rising key_of all es under stand.1 (and_parts _ _ sorted).1)
    where
      above : (key_of : X → K) (all : List (K × X)) (e : K × X) (es : List (K × X))
          → ((key : K) (row : X) → find keys.cmp key all ≡ Some row → key_of row ≡ key)
          → find keys.cmp e.0 all ≡ Some e.1
          → AllByRecursion (λ (e : K × X). find keys.cmp e.0 all ≡ Some e.1) es
          → AllByRecursion (λ (other : K × X). keys.cmp e.0 other.0 ≡ Less) es
          → AllByRecursion (λ key. keys.cmp (key_of e.1) key ≡ Less) (map key_of (map (λ (e : K × X). e.1) es))
      above key_of all e [] under stands stand below = tt
      above key_of all e (other ∷ es) under stands stand below = (
        ap (λ key. keys.cmp key (key_of other.1)) (under e.0 e.1 stands) ∙ (ap (λ key. keys.cmp e.0 key) (under other.0 other.1 stand.0) ∙ below.0),
        above key_of all e es under stands stand.1 below.1,
      )

module _ {K X : Type 0} {keys : Keys K} where
  -- a row that stands under a key is listed
  pub Contains-listed : (rows : Rows keys X) (key : K) (row : X) → at rows key ≡ Some row → Contains (listed rows) row
  unfolding at listed
  Contains-listed rows key row is = found_listed keys key row (map.entries rows.map) (sym (get-entries rows.map key) ∙ is)

  -- each row that is listed stands under its key
  pub AllByRecursion-listed : (key_of : X → K) (rows : Rows keys X) → StandUnder key_of rows → AllByRecursion (λ row. at rows (key_of row) ≡ Some row) (listed rows)
  unfolding at listed
  AllByRecursion-listed key_of rows under =
      by_keys keys (at rows) key_of (map.entries rows.map) (map.entries rows.map) (get-entries rows.map) under
      (all_stand keys (map.entries rows.map) (is_true _ (entries_sorted rows.map)))

  -- the list is in the order of the keys, and has each key once
  pub IsStrictlySortedBy-listed : (key_of : X → K) (rows : Rows keys X) → StandUnder key_of rows → IsStrictlySortedBy keys.cmp (map key_of (listed rows))
  unfolding at listed
  IsStrictlySortedBy-listed key_of rows under =
      rising keys key_of (map.entries rows.map) (map.entries rows.map)
      (λ key row is. under key row (get-entries rows.map key ∙ is))
      (all_stand keys (map.entries rows.map) (is_true _ (entries_sorted rows.map)))
      (is_true _ (entries_sorted rows.map))

-- ---- the rows that pass

module _ {K X : Type 0} (keys : Keys K) (p : X → Bool) where
  -- the test of a key by its row
  abbrev by_row : Rows keys X → K → Bool
  by_row rows key = passes p (map.get rows.map key)

  alike : (rows : Rows keys X) (key other : K) → keys.cmp key other ≡ Equal → by_row rows other ≡ by_row rows key
  alike rows key other tie = ap (by_row rows) (sym (keys.same key other tie))

  entries-where : (rows : Rows keys X) → map.entries (map.retain_keys rows.map (by_row rows)) ≡ where_key keys.cmp (by_row rows) (map.entries rows.map)
  entries-where rows =
      let es = map.entries rows.map in
      let q = by_row rows in
      let sorted = is_sorted-where_key keys.cmp q es (entries_sorted rows.map) in
      ap map.entries
      (same_map keys.total keys.same (map.retain_keys rows.map q) (map.from_sorted (where_key keys.cmp q es)) (λ key.
      get-retain_keys rows.map q key (alike rows key)
      ∙ (ap (λ o. if q key then o else None) (get-entries rows.map key)
      ∙ sym (get-from_sorted keys.cmp (where_key keys.cmp q es) key sorted ∙ find-where_key keys.cmp q key (alike rows key) es))))
      ∙ entries-from_sorted keys.cmp (where_key keys.cmp q es) sorted

  values-where : (look : K → Option X) (es : List (K × X)) → AllByRecursion (λ (e : K × X). look e.0 ≡ Some e.1) es
      → map (λ (e : K × X). e.1) (filter (λ (e : K × X). passes p (look e.0)) es) ≡ filter p (map (λ (e : K × X). e.1) es)
  values-where look [] all = refl
  values-where look (e ∷ es) all =
      ap (λ o. map (λ (e : K × X). e.1) (if passes p o then e ∷ filter (λ (e : K × X). passes p (look e.0)) es else filter (λ (e : K × X). passes p (look e.0)) es)) all.0
      ∙ by (p e.1) (values-where look es all.1)
    where
      by : (b : Bool) → map (λ (e : K × X). e.1) (filter (λ (e : K × X). passes p (look e.0)) es) ≡ filter p (map (λ (e : K × X). e.1) es)
          → map (λ (e : K × X). e.1) (if b then e ∷ filter (λ (e : K × X). passes p (look e.0)) es else filter (λ (e : K × X). passes p (look e.0)) es)
          ≡ (if b then e.1 ∷ filter p (map (λ (e : K × X). e.1) es) else filter p (map (λ (e : K × X). e.1) es))
      by true rest = ap (λ xs. e.1 ∷ xs) rest
      by false rest = rest

  found_all : (m : FinMap keys.cmp X) (es : List (K × X)) → AllByRecursion (λ (e : K × X). find keys.cmp e.0 (map.entries m) ≡ Some e.1) es
      → AllByRecursion (λ (e : K × X). map.get m e.0 ≡ Some e.1) es
  found_all m [] all = tt
  found_all m (e ∷ es) all = (get-entries m e.0 ∙ all.0, found_all m es all.1)

module _ {K X : Type 0} {keys : Keys K} where
  -- the rows that pass are those of the list
  pub listed-rows_where : (p : X → Bool) (rows : Rows keys X) → listed (rows_where p rows) ≡ filter p (listed rows)
  unfolding listed rows_where
  listed-rows_where p rows =
      ap (λ es. map (λ (e : K × X). e.1) es) (entries-where keys p rows)
      ∙ values-where keys p (map.get rows.map) (map.entries rows.map)
      (found_all keys p rows.map (map.entries rows.map) (all_stand keys (map.entries rows.map) (is_true _ (entries_sorted rows.map))))

  -- there are as many rows as the list has
  pub length-listed : (rows : Rows keys X) → length (listed rows) ≡ size rows
  unfolding listed size
  length-listed rows = as_long (map.entries rows.map) ∙ sym (len-entries rows.map)
    where
      as_long : (es : List (K × X)) → length (map (λ (e : K × X). e.1) es) ≡ length es
      as_long [] = refl
      as_long (e ∷ es) = omega (arith, as_long es)

  -- and as many that pass as the list has
  pub how_many-listed : (p : X → Bool) (rows : Rows keys X) → how_many p rows ≡ length (filter p (listed rows))
  how_many-listed p rows = sym (length-listed (rows_where p rows)) ∙ ap length (listed-rows_where p rows)
