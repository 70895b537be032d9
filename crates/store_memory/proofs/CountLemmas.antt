-- Counts of machines, as they are kept and as they are listed.
use Rattle.std.{proofs.{Common.{◌≡◌, ◌≤◌, ◌<◌, ◌+◌, ◌==◌, ◌&&◌, ◌^◌, ℕ, List, [], ◌∷◌, map, length, filter, Option, Some, Bool, true, false, not, cond, if◌then◌else◌, Ordering, Less, Equal, Greater, is_eq, All, refl, sym, ap, subst, arith, ◌∙◌}, lemmas.{Bool.{and_parts, eqb-true, Decides.nat_tests}, List.{Elements.recursion_from_All, Filters.length-filter_both}, Slice.Eq.bytes_eq-Decides}}, specs.{BTreeMap.{BTreeMap, IsOrdered, Updates, btree_map_len, get, is_at, values}, Cmp.{eq_by_cmp_equiv, nat_cmp_total, tied_then, Lexicographic.{nat_list_cmp_total, texts_ties}}, List.{AllByRecursion, Sorted.IsStrictlySortedBy}, Map.{keys_of, lookup}, Ordering.{eq_by_cmp, nat_cmp, ordering_then}, Str.bytes_eq}}
use Rattle.hall_types.specs.Rows.{listed, numbers}
use Rattle.store_memory.{specs.{Prelude.{Hall, how_many-listed, same_number, status_number, Machine, Status, AreCounts, count_cmp, counted, is_about, is_in, Count}, Counted.{AreEntries, CountsMore, counted_in, key_cmp, machines_in, many}, Held.text_cmp, Table.rows_of}, proofs.HeldLemmas.rows_few}

number_ties : (a b : ℕ) → is_eq (nat_cmp a b) ≡ (a == b)
unfolding numbers
number_ties a b = same_number a b

-- keys tie where their parts are the same
ties : (a b : List ℕ) (i j : ℕ) → eq_by_cmp key_cmp (a, i) (b, j) ≡ (bytes_eq a b && (i == j))
ties a b i j = sym (tied_then (text_cmp a b) (nat_cmp i j)) ∙ (ap (λ x. x && is_eq (nat_cmp i j)) (sym (texts_ties a b)) ∙ ap (λ y. bytes_eq a b && y) (number_ties i j))

ties_back : (a b : List ℕ) (i j : ℕ) → eq_by_cmp key_cmp (a, i) (b, j) ≡ (bytes_eq b a && (j == i))
ties_back a b i j =
    sym (tied_then (text_cmp a b) (nat_cmp i j))
    ∙ (ap (λ x. x && is_eq (nat_cmp i j)) ((eq_by_cmp_equiv nat_list_cmp_total).symm a b ∙ sym (texts_ties b a))
    ∙ ap (λ y. bytes_eq b a && y) ((eq_by_cmp_equiv nat_cmp_total).symm i j ∙ number_ties j i))

-- a key that ties has the same parts
same_parts : (a b : List ℕ) (i j : ℕ) → (bytes_eq a b && (i == j)) ≡ true → (a ≡ b) × (i ≡ j)
same_parts a b i j tie = let parts = and_parts (bytes_eq a b) (i == j) tie in ((bytes_eq-Decides a b).0 parts.0, eqb-true i j parts.1)

-- ---- one more machine

module _ (old new : BTreeMap (List ℕ × ℕ) Count) (m : Machine) (n : ℕ)
    (updates : Updates key_cmp old new (m.pool, status_number m.status) (Some (record { pool = m.pool; status = m.status; machines = n }))) where
  pub entries_after : 1 ≤ n → AreEntries old → AreEntries new
  entries_after some entries key count found = by (bytes_eq m.pool key.0 && (status_number m.status == key.1)) refl
      (sym (ap (λ b. cond b (Some (record { pool = m.pool; status = m.status; machines = n })) (get key_cmp old key)) (ties m.pool key.0 (status_number m.status) key.1))
      ∙ (sym (updates.0 key) ∙ found))
    where
      by : (b : Bool) → (bytes_eq m.pool key.0 && (status_number m.status == key.1)) ≡ b
          → cond b (Some (record { pool = m.pool; status = m.status; machines = n })) (get key_cmp old key) ≡ Some count
          → (count.pool ≡ key.0) × (status_number count.status ≡ key.1) × (1 ≤ count.machines)
      by true t e =
          let (pool_is, status_is) = same_parts m.pool key.0 (status_number m.status) key.1 t in
          let same : ◌≡◌ {A = Count} (record { pool = m.pool; status = m.status; machines = n }) count = cc in (
            sym (ap (λ c. c.pool) same) ∙ pool_is,
            sym (ap (λ c. status_number c.status) same) ∙ status_is,
            subst (λ c. 1 ≤ c.machines) same some,
          )
      by false t e = entries key count e

  pub more_after : n ≡ counted_in old m.pool m.status + 1 → CountsMore old new (m ∷ [])
  more_after is pool status =
      ap machines_in (updates.0 (pool, status_number status))
      ∙ (ap (λ b. machines_in (cond b (Some (record { pool = m.pool; status = m.status; machines = n })) (get key_cmp old (pool, status_number status)))) (ties m.pool pool (status_number m.status) (status_number status))
      ∙ by (is_in pool status m) refl)
    where
      by : (b : Bool) → is_in pool status m ≡ b
          → machines_in (cond b (Some (record { pool = m.pool; status = m.status; machines = n })) (get key_cmp old (pool, status_number status))) ≡ counted_in old pool status + length (if b then m ∷ [] else [])
      by true t =
          let (pool_is, status_is) = same_parts m.pool pool (status_number m.status) (status_number status) t in
          let key_is : counted_in old m.pool m.status ≡ counted_in old pool status = ap (λ p. machines_in (get key_cmp old (p, status_number m.status))) pool_is ∙ ap (λ s. machines_in (get key_cmp old (pool, s))) status_is in
          is ∙ ap (λ k. k + 1) key_is
      by false t = omega arith

-- ---- as a list

-- an entry's count says its key
abbrev pub Says : (List ℕ × ℕ) × Count → Type 0
Says e = (e.1.pool ≡ e.0.0) × (status_number e.1.status ≡ e.0.1) × (1 ≤ e.1.machines)

counted_list : (pool : List ℕ) (status : Status) (es : List ((List ℕ × ℕ) × Count)) → AllByRecursion Says es
    → counted pool status (map (λ e. e.1) es) ≡ machines_in (lookup (is_at (key_cmp (pool, status_number status))) es)
counted_list pool status [] all = refl
counted_list pool status (e ∷ es) all =
    ap (λ b. if b then e.1.machines else counted pool status (map (λ e. e.1) es)) about
    ∙ by (eq_by_cmp key_cmp (pool, status_number status) e.0) (counted_list pool status es all.1)
  where
    about : is_about pool status e.1 ≡ eq_by_cmp key_cmp (pool, status_number status) e.0
    about =
        ap (λ p. bytes_eq p pool && (status_number e.1.status == status_number status)) all.0.0
        ∙ (ap (λ n. bytes_eq e.0.0 pool && (n == status_number status)) all.0.1
        ∙ sym (ties_back pool e.0.0 (status_number status) e.0.1))

    by : (b : Bool) → counted pool status (map (λ e. e.1) es) ≡ machines_in (lookup (is_at (key_cmp (pool, status_number status))) es)
        → (if b then e.1.machines else counted pool status (map (λ e. e.1) es)) ≡ machines_in (cond b (Some e.1) (lookup (is_at (key_cmp (pool, status_number status))) es))
    by true rest = refl
    by false rest = rest

some_each : (es : List ((List ℕ × ℕ) × Count)) → AllByRecursion Says es → AllByRecursion (λ c. 1 ≤ c.machines) (map (λ e. e.1) es)
some_each [] all = tt
some_each (e ∷ es) all = (all.0.2, some_each es all.1)

later_each : (first : (List ℕ × ℕ) × Count) → Says first → (es : List ((List ℕ × ℕ) × Count)) → AllByRecursion Says es
    → AllByRecursion (λ key. key_cmp first.0 key ≡ Less) (keys_of es) → AllByRecursion (λ c. count_cmp first.1 c ≡ Less) (map (λ e. e.1) es)
later_each first says [] all below = tt
later_each first says (e ∷ es) all below = (
  ap (λ p. ordering_then (text_cmp p e.1.pool) (nat_cmp (status_number first.1.status) (status_number e.1.status))) says.0
      ∙ (ap (λ p. ordering_then (text_cmp first.0.0 p) (nat_cmp (status_number first.1.status) (status_number e.1.status))) all.0.0
      ∙ (ap (λ n. ordering_then (text_cmp first.0.0 e.0.0) (nat_cmp n (status_number e.1.status))) says.1
      ∙ (ap (λ n. ordering_then (text_cmp first.0.0 e.0.0) (nat_cmp first.0.1 n)) all.0.1 ∙ below.0))),
  later_each first says es all.1 below.1,
)

ascending_each : (es : List ((List ℕ × ℕ) × Count)) → AllByRecursion Says es → IsStrictlySortedBy key_cmp (keys_of es) → IsStrictlySortedBy count_cmp (map (λ e. e.1) es)
unfolding IsStrictlySortedBy
ascending_each [] all sorted = tt
ascending_each (e ∷ es) all sorted = (later_each e all.0 es all.1 sorted.0, ascending_each es all.1 sorted.1)

says_each : (counts : BTreeMap (List ℕ × ℕ) Count) → AreEntries counts → (es : List ((List ℕ × ℕ) × Count)) → AllByRecursion (λ e. get key_cmp counts e.0 ≡ Some e.1) es → AllByRecursion Says es
says_each counts entries [] all = tt
says_each counts entries (e ∷ es) all = (entries e.0 e.1 all.0, says_each counts entries es all.1)

-- the list of the entries has the counts of a hall
pub are_counts : (counts : BTreeMap (List ℕ × ℕ) Count) (h : Hall) → AreEntries counts → All (λ e. get key_cmp counts e.0 ≡ Some e.1) counts.entries → IsOrdered key_cmp counts
    → ((pool : List ℕ) (status : Status) → counted_in counts pool status ≡ many pool status (listed h.machines)) → (list : List Count) → list ≡ values counts → AreCounts h list
are_counts counts h entries found ordered exact list is =
    let says = says_each counts entries counts.entries (recursion_from_All (λ e. get key_cmp counts e.0 ≡ Some e.1) counts.entries found) in
    subst (AreCounts h) (sym is) (record {
      exact = λ pool status. counted_list pool status counts.entries says ∙ (exact pool status ∙ sym (how_many-listed (is_in pool status) h.machines));
      some = some_each counts.entries says;
      ascending = ascending_each counts.entries says ordered;
    })

filter_few : {X : Type 0} (p : X → Bool) (xs : List X) → length (filter p xs) ≤ length xs
filter_few p xs = omega (arith, length-filter_both p (λ x. not (p x)) (λ x. refl) xs)

bounded : (so_far rest all rows slots : ℕ) → so_far + rest ≡ all → all ≤ rows → rows ≤ slots → slots < 2 ^ 63 → so_far < 2 ^ 63
bounded so_far rest all rows slots a b c d = omega arith

-- fewer machines were counted than a table has slots
pub counted_few : (so_far : ℕ) (pool : List ℕ) (status : Status) (rest : List Machine) (machines : BTreeMap ℕ (Option Machine))
    → so_far + many pool status rest ≡ many pool status (rows_of machines) → btree_map_len machines < 2 ^ 63 → so_far < 2 ^ 63
counted_few so_far pool status rest machines is small =
    bounded so_far (many pool status rest) (many pool status (rows_of machines)) (length (rows_of machines)) (btree_map_len machines) is
    (filter_few (is_in pool status) (rows_of machines)) (rows_few machines.entries) small
