-- Tables and the rows of a hall: what is found in both after each change.
use Rattle.std.{proofs.{Common.{◌≡◌, ◌&&◌, ℕ, List, [], ◌∷◌, map, Option, Some, None, Bool, true, false, not, refl, sym, ap, subst, ◌∙◌, Ordering, Less, Equal, Greater, is_eq, if◌then◌else◌, filter_map, IsSome, is_some, option_map}, Math.Dec.T}, specs.{BTreeMap.{BTreeMap, IsEmpty, IsOrdered}, Cmp.{Equal-is, IsTotalOrder, eq_by_cmp_equiv, Lexicographic.{nat_list_cmp_total, texts_ties}, nat_cmp_total}, FinMap.{find, is_sorted, entries_sorted, get-entries, Entries.{same_entries, below_all}}, List.{AllByRecursion, cons_option, Sorted.IsStrictlySortedBy}, Map.{lookup, keys_of, Calls.RetainsPairs}, Ordering.{nat_cmp, eq_by_cmp, is_lt, ordering_reverse, ordering_then}, Str.bytes_eq}}
use Rattle.std.specs.FinMap as map_of
use Rattle.hall_types.specs.Rows.{no_rows, numbers, texts, pairs, at, listed}
use Rattle.store_memory.specs.{Prelude.{Keys, Rows, put, gone, rows_where, passes, same_key, at-no_rows, at-put, at-gone, at-rows_where}, Table.{IsTable, row_in, rows_of, unless_gone}, Held.{as_pair, itself, pair_cmp, text_cmp}}

-- how keys of a table tie, and which keys of a hall's rows they are: they tie where those do
pub record KeysOf (K : Type 0) {L : Type 0} (keys : Keys L) : Type 0 where
  pub eq : K → K → Bool
  pub key_of : K → L
  pub alike : (one other : K) → eq one other ≡ same_key keys (key_of other) (key_of one)

pub texts_alike : (one other : List ℕ) → eq_by_cmp text_cmp one other ≡ same_key texts other one
unfolding texts
texts_alike one other = (eq_by_cmp_equiv nat_list_cmp_total).symm one other

pub numbers_alike : (one other : ℕ) → eq_by_cmp nat_cmp one other ≡ same_key numbers other one
unfolding numbers
numbers_alike one other = (eq_by_cmp_equiv nat_cmp_total).symm one other

turned : (a b : Ordering) → is_eq (ordering_then a b) ≡ is_eq (ordering_then (ordering_reverse a) (ordering_then (ordering_reverse b) Equal))
turned Equal Less = refl
turned Equal Equal = refl
turned Equal Greater = refl
turned a b = refl

pub pairs_alike : (one other : List ℕ × List ℕ) → eq_by_cmp pair_cmp one other ≡ same_key pairs (as_pair other) (as_pair one)
unfolding pairs
pairs_alike one other =
    turned (text_cmp one.0 other.0) (text_cmp one.1 other.1)
    ∙ (ap (λ o. is_eq (ordering_then o (ordering_then (ordering_reverse (text_cmp one.1 other.1)) Equal))) (sym (nat_list_cmp_total.antisymm other.0 one.0))
    ∙ ap (λ o. is_eq (ordering_then (text_cmp other.0 one.0) (ordering_then o Equal))) (sym (nat_list_cmp_total.antisymm other.1 one.1)))

-- in a table in the order of texts
abbrev pub by_text : KeysOf (List ℕ) texts
by_text = record { eq = eq_by_cmp text_cmp; key_of = itself; alike = texts_alike }

-- in the order of numbers
abbrev pub by_number : KeysOf ℕ numbers
by_number = record { eq = eq_by_cmp nat_cmp; key_of = itself; alike = numbers_alike }

-- in the order of pairs of texts
abbrev pub by_pair : KeysOf (List ℕ × List ℕ) pairs
by_pair = record { eq = eq_by_cmp pair_cmp; key_of = as_pair; alike = pairs_alike }

-- in a table by a hash of texts
abbrev pub by_hash : KeysOf (List ℕ) texts
by_hash = record { eq = bytes_eq; key_of = itself; alike = λ one other. texts_ties one other ∙ texts_alike one other }

-- ---- what is found by keys in a table and in the rows of a hall, after one row was put or went

module _ {K L X : Type 0} {keys : Keys L} (k : KeysOf K keys) {old new : K → Option X} (rows : Rows keys X) (are : (other : K) → old other ≡ at rows (k.key_of other)) (key : K) where
  pub put_row : (row : X) → ((other : K) → new other ≡ (if k.eq key other then Some row else old other)) → (other : K) → new other ≡ at (put (k.key_of key) row rows) (k.key_of other)
  put_row row sets other =
      sets other
      ∙ (ap (λ b. if b then Some row else old other) (k.alike key other)
      ∙ (ap (λ o. if same_key keys (k.key_of other) (k.key_of key) then Some row else o) (are other)
      ∙ sym (at-put rows (k.key_of key) row (k.key_of other))))

  pub gone_row : ((other : K) → new other ≡ (if k.eq key other then None else old other)) → (other : K) → new other ≡ at (gone (k.key_of key) rows) (k.key_of other)
  gone_row sets other =
      sets other
      ∙ (ap (λ b. if b then None else old other) (k.alike key other)
      ∙ (ap (λ o. if same_key keys (k.key_of other) (k.key_of key) then None else o) (are other)
      ∙ sym (at-gone rows (k.key_of key) (k.key_of other))))

-- a table that begins with one row
pub sole_row : {K L X : Type 0} {keys : Keys L} (k : KeysOf K keys) {new : K → Option X} (key : K) (row : X)
    → ((other : K) → new other ≡ (if k.eq key other then Some row else None)) → (other : K) → new other ≡ at (put (k.key_of key) row (no_rows {keys = keys})) (k.key_of other)
sole_row {keys = keys} k {new} key row sole = put_row k {old = λ other. None} {new = new} no_rows (λ other. sym (at-no_rows keys (k.key_of other) no_rows refl)) key row sole

-- ---- all rows in order

both : (a b : Bool) → T a → T b → T (a && b)
both true b p q = q
both false b p q = p

module _ {K X : Type 0} where
  -- the key with its row, if there is one
  abbrev with_key : K → Option X → Option (K × X)
  with_key key None = None
  with_key key (Some x) = Some (key, x)

  -- the entries that have a row
  abbrev shown : List (K × Option X) → List (K × X)
  shown es = filter_map (λ (e : K × Option X). with_key e.0 e.1) es

  values_shown : (es : List (K × Option X)) → map (λ (e : K × X). e.1) (shown es) ≡ filter_map (λ (row : Option X). row) (map (λ (e : K × Option X). e.1) es)
  values_shown [] = refl
  values_shown (e ∷ es) = by e.1 (values_shown es)
    where
      by : (row : Option X) → map (λ (e : K × X). e.1) (shown es) ≡ filter_map (λ (row : Option X). row) (map (λ (e : K × Option X). e.1) es)
          → map (λ (e : K × X). e.1) (cons_option (with_key e.0 row) (shown es)) ≡ cons_option row (filter_map (λ (row : Option X). row) (map (λ (e : K × Option X). e.1) es))
      by None rest = rest
      by (Some x) rest = ap (λ xs. x ∷ xs) rest

  module _ (cmp : K → K → Ordering) where
    below_shown : (key : K) (es : List (K × Option X)) → AllByRecursion (λ other. cmp key other ≡ Less) (keys_of es) → T (below_all cmp key (shown es))
    below_shown key [] all = tt
    below_shown key (e ∷ es) all = by e.1 (below_shown key es all.1)
      where
        by : (row : Option X) → T (below_all cmp key (shown es)) → T (below_all cmp key (cons_option (with_key e.0 row) (shown es)))
        by None rest = rest
        by (Some x) rest = both (is_lt (cmp key e.0)) (below_all cmp key (shown es)) (subst (λ o. T (is_lt o)) (sym all.0) tt) rest

    sorted_shown : (es : List (K × Option X)) → IsStrictlySortedBy cmp (keys_of es) → T (is_sorted cmp (shown es))
    unfolding IsStrictlySortedBy
    sorted_shown [] sorted = tt
    sorted_shown (e ∷ es) sorted = by e.1 (sorted_shown es sorted.1)
      where
        by : (row : Option X) → T (is_sorted cmp (shown es)) → T (is_sorted cmp (cons_option (with_key e.0 row) (shown es)))
        by None rest = rest
        by (Some x) rest = both (below_all cmp e.0 (shown es)) (is_sorted cmp (shown es)) (below_shown e.0 es sorted.0) rest

    module _ (o : IsTotalOrder cmp) where
      -- after a key that ties, none does
      none_later : (q key : K) → cmp q key ≡ Equal → (es : List (K × Option X)) → AllByRecursion (λ other. cmp key other ≡ Less) (keys_of es) → find cmp q (shown es) ≡ None
      none_later q key tie [] all = refl
      none_later q key tie (e ∷ es) all = by e.1 (none_later q key tie es all.1)
        where
          less : cmp q e.0 ≡ Less
          less = o.congr q key e.0 tie ∙ all.0

          by : (row : Option X) → find cmp q (shown es) ≡ None → find cmp q (cons_option (with_key e.0 row) (shown es)) ≡ None
          by None rest = rest
          by (Some x) rest = ap (λ r. if is_eq r then Some x else find cmp q (shown es)) less ∙ rest

      find_shown : (q : K) (es : List (K × Option X)) → IsStrictlySortedBy cmp (keys_of es) → find cmp q (shown es) ≡ row_in (lookup (λ k. is_eq (cmp q k)) es)
      unfolding IsStrictlySortedBy
      find_shown q [] sorted = refl
      find_shown q (e ∷ es) sorted = by (is_eq (cmp q e.0)) refl e.1 (find_shown q es sorted.1)
        where
          by : (b : Bool) → is_eq (cmp q e.0) ≡ b → (row : Option X) → find cmp q (shown es) ≡ row_in (lookup (λ k. is_eq (cmp q k)) es)
              → find cmp q (cons_option (with_key e.0 row) (shown es)) ≡ row_in (if b then Some row else lookup (λ k. is_eq (cmp q k)) es)
          by true t None rest = none_later q e.0 ((Equal-is (cmp q e.0)).0 t) es sorted.0
          by true t (Some x) rest = ap (λ b. if b then Some x else find cmp q (shown es)) t
          by false t None rest = rest
          by false t (Some x) rest = ap (λ b. if b then Some x else find cmp q (shown es)) t ∙ rest

module _ {K X : Type 0} (keys : Keys K) where
  -- the rows of a table in order are the hall's
  pub rows_listed : (table : BTreeMap K (Option X)) (rows : Rows keys X) → IsOrdered keys.cmp table → IsTable keys.cmp itself table rows → rows_of table ≡ listed rows
  unfolding at listed
  rows_listed table rows ordered is =
      sym (values_shown table.entries)
      ∙ ap (λ es. map (λ (e : K × X). e.1) es)
      (same_entries keys.cmp keys.total keys.same (shown table.entries) (map_of.entries rows.map) (sorted_shown keys.cmp table.entries ordered) (entries_sorted rows.map) (λ q.
      find_shown keys.cmp keys.total q table.entries ordered ∙ (is q ∙ get-entries rows.map q)))

pub texts_listed : {X : Type 0} (table : BTreeMap (List ℕ) (Option X)) (rows : Rows texts X) → IsOrdered text_cmp table → IsTable text_cmp itself table rows → rows_of table ≡ listed rows
unfolding texts
texts_listed table rows ordered is = rows_listed texts table rows ordered is

pub numbers_listed : {X : Type 0} (table : BTreeMap ℕ (Option X)) (rows : Rows numbers X) → IsOrdered nat_cmp table → IsTable nat_cmp itself table rows → rows_of table ≡ listed rows
unfolding numbers
numbers_listed table rows ordered is = rows_listed numbers table rows ordered is

-- ---- rows taken out by what they are

-- a row that doesn't go is one that stays
pub by_passing : {X : Type 0} (goes : X → Bool) (row : Option X) → unless_gone goes row ≡ (if passes (λ x. not (goes x)) row then row else None)
by_passing goes None = refl
by_passing goes (Some x) = by (goes x)
  where
    by : (b : Bool) → (if b then None else Some x) ≡ (if not b then Some x else None)
    by true = refl
    by false = refl

pub where_rows : {K L X : Type 0} {keys : Keys L} (k : KeysOf K keys) {old new : K → Option X} (rows : Rows keys X) (goes : X → Bool)
    → ((key : K) → old key ≡ at rows (k.key_of key)) → ((key : K) → new key ≡ unless_gone goes (old key)) → (key : K) → new key ≡ at (rows_where (λ x. not (goes x)) rows) (k.key_of key)
where_rows k rows goes are clears key =
    clears key ∙ (ap (unless_gone goes) (are key) ∙ (by_passing goes (at rows (k.key_of key)) ∙ sym (at-rows_where (λ x. not (goes x)) rows (k.key_of key))))

-- ---- what a closure that keeps each key leaves

module _ {F K X : Type 0} (C : F → K → X → Bool → X → F → Type 0) (I : F → Type 0) (left : X → X)
    (each : (g : F) (k : K) (v : X) (b : Bool) (w : X) (g' : F) → I g → C g k v b w g' → (b ≡ true) × (w ≡ left v) × I g') where
  pub mapped_from_retain_pairs : (g : F) (es kept : List (K × X)) → I g → RetainsPairs C g es kept → kept ≡ map (λ (e : K × X). (e.0, left e.1)) es
  mapped_from_retain_pairs g [] kept i all = all
  mapped_from_retain_pairs g (e ∷ es) kept i (b, w, g', rest, call, later, is) =
      let it = each g e.0 e.1 b w g' i call in
      is ∙ (ap (λ c. if c then (e.0, w) ∷ rest else rest) it.0
      ∙ (ap (λ v. (e.0, v) ∷ rest) it.1 ∙ ap (λ es. (e.0, left e.1) ∷ es) (mapped_from_retain_pairs g' es rest it.2 later)))

-- the slots that a test finds, after rows went
module _ {K X : Type 0} (test : K → Bool) (goes : X → Bool) where
  found : (es : List (K × Option X)) → lookup test (map (λ (e : K × Option X). (e.0, unless_gone goes e.1)) es) ≡ option_map (unless_gone goes) (lookup test es)
  found [] = refl
  found (e ∷ es) = by (test e.0) (found es)
    where
      by : (b : Bool) → lookup test (map (λ e. (e.0, unless_gone goes e.1)) es) ≡ option_map (unless_gone goes) (lookup test es)
          → (if b then Some (unless_gone goes e.1) else lookup test (map (λ e. (e.0, unless_gone goes e.1)) es)) ≡ option_map (unless_gone goes) (if b then Some e.1 else lookup test es)
      by true rest = refl
      by false rest = rest

  module _ (old new : List (K × Option X)) (is : new ≡ map (λ (e : K × Option X). (e.0, unless_gone goes e.1)) old) where
    pub row_cleared : row_in (lookup test new) ≡ unless_gone goes (row_in (lookup test old))
    row_cleared = ap (λ es. row_in (lookup test es)) is ∙ (ap row_in (found old) ∙ by (lookup test old))
      where
        by : (slot : Option (Option X)) → row_in (option_map (unless_gone goes) slot) ≡ unless_gone goes (row_in slot)
        by None = refl
        by (Some row) = refl

    pub slot_kept : IsSome (lookup test old) → IsSome (lookup test new)
    slot_kept = by (lookup test old) (ap (lookup test) is ∙ found old)
      where
        by : (slot : Option (Option X)) → lookup test new ≡ option_map (unless_gone goes) slot → IsSome slot → IsSome (lookup test new)
        by None e some = cc
        by (Some row) e some = ap is_some e

-- ---- tables that begin

pub empty_table : {K L X : Type 0} (cmp : K → K → Ordering) (keys : Keys L) (key_of : K → L) (table : BTreeMap K (Option X)) → IsEmpty table → IsTable cmp key_of table (no_rows {K = L} {X = X} {keys = keys})
empty_table cmp keys key_of table empty key = ap (λ es. row_in (lookup (λ k. is_eq (cmp key k)) es)) empty ∙ sym (at-no_rows keys (key_of key) no_rows refl)
