-- Counts as rows by pool and status, and what the statements on them answer and write.
use Rattle.sql_schema.specs.{Words.{finds_kept, lists_kept, adds_kept, changes_kept, removes_kept, number_order, equal_numbers, count_key, of_counts, in_rows, SpellHall, Spells, is_in, next_rowid, AllByRecursion, option_to_list, bytes_eq, Row, column, map-map, filter-map, filter_same, filter_all, all_of, all_weaker, all_unmap, map_back, Hall, StandUnder, AllByRecursion-listed, key-same, at-put, at-gone, Rows, at, listed, same_key, how_many, CountRow, count_columns, number, and_true, AreRising, AreRising-listed, listed_with_key, same_pair, Entry, item_of, rowid_of, Counts, HallRows, nat_tests, Error, Null, Text, Int, lit, binary, is_true, Binary, Compare, Eq, State, Shown, HasCleanDisk, Survives, FailsToQuery, CommitsShowing, Database, never_follows, goes_alone, IsWithin, IsTableRead, within, asked, parameter, equals, cell, rising, IsBefore, shown_answer, sets, shown_same, hall_schema, counts_table, nat_cmp, ordering_then, slice_cmp, Value, Output, value_cmp-Int, value_cmp-Text, status_number, Status, list_counts_query, add_is, find_is}, Writing.Makes, declared.creating.TheConstants.{LIST_COUNTS, ADD_COUNT}}
use Rattle.sql_items.specs.{CountStatements.{find_count_is, set_count_is, remove_count_is}, Counts.{counting, with_count, text_from, count_values}, declared.counts.TheConstants.{FIND_COUNT, REMOVE_COUNT, SET_COUNT}}
use Rattle.std.{proofs.Common.{◌≡◌, ◌&&◌, ◌==◌, ◌≤◌, ℕ, zero, suc, Bool, true, false, cond, if◌then◌else◌, List, [], ◌∷◌, map, filter, Option, Some, None, refl, sym, ap, subst, ◌∙◌, arith, ◌<◌, pos, ap₂, Ordering, Less, Equal, Greater, Result, IfOk, IfErr}, specs.List.Sorted.IsStrictlySortedBy}
use Rattle.hall_types.specs.Rows.{pairs, numbers}
use Rattle.sql_schema.specs.ValueLaws as value
use Rattle.hall_store.specs.{declared.count.Count.Count, Counts.{AreCounts as AreHallCounts, count_cmp, counted, is_about}}

abbrev key_of : CountRow → List (List ℕ)
key_of c = count_key c.pool c.status

abbrev CountRows : Type 0
CountRows = Rows pairs CountRow

abbrev machines_of : CountRow → ℕ
machines_of c = c.machines

same_count : (p q : List ℕ) (s t : ℕ) → same_key pairs (count_key p s) (count_key q t) ≡ (bytes_eq p q && (s == t))
same_count p q s t = same_pair p (s ∷ []) q (t ∷ []) ∙ ap (λ b. bytes_eq p q && b) (and_true (s == t))

-- the rows have these counts
abbrev Have : CountRows → Counts → Type 0
Have rows all = (pool : List ℕ) (status : ℕ) → map machines_of (option_to_list (at rows (count_key pool status))) ≡ in_rows (all pool status)

-- with another row of one count, or none
recount : (rows after : CountRows) (all : Counts) → Have rows all → (pool : List ℕ) (status n : ℕ) (o : Option CountRow) → map machines_of (option_to_list o) ≡ in_rows n
    → ((k : List (List ℕ)) → at after k ≡ (if same_key pairs k (count_key pool status) then o else at rows k)) → Have after (counting all pool status n)
recount rows after all have pool status n o is now p s =
    ap (λ (x : Option CountRow). map machines_of (option_to_list x)) (now (count_key p s) ∙ ap (λ b. if b then o else at rows (count_key p s)) (same_count p pool s status)) ∙ by (bytes_eq p pool && (s == status))
  where
    by : (b : Bool) → map machines_of (option_to_list (if b then o else at rows (count_key p s))) ≡ in_rows (if b then n else all p s)
    by true = is
    by false = have p s

-- ---- which row is there

no_row : (o : Option CountRow) → map machines_of (option_to_list o) ≡ [] → o ≡ None
no_row None e = refl
no_row (Some c) e = absurd cc

some_row : (o : Option CountRow) (n : ℕ) → map machines_of (option_to_list o) ≡ in_rows n → 0 < n → (c : CountRow) × (o ≡ Some c)
some_row None zero e high = absurd (omega arith)
some_row None (suc n) e high = absurd cc
some_row (Some c) n e high = (c, refl)

one_row : (n : ℕ) → 0 < n → n ∷ [] ≡ in_rows n
one_row zero high = absurd (omega arith)
one_row (suc n) high = refl

not_none : (n : ℕ) → (suc n == 0) ≡ false
not_none n = grind (arith, nat_tests)

module _ (pool : List ℕ) (status : ℕ) where
  abbrev row_with : ℕ → CountRow
  row_with n = record { pool = pool; status = status; machines = n }

  -- WHERE the pool equals one parameter AND the status equals another one
  finds : (e : Entry CountRow) → (is_true (binary (Compare Eq Binary) (Text e.item.pool) (Text pool)) && (is_true (binary (Compare Eq Binary) (number e.item.status) (number status)) && true))
      ≡ same_key pairs (key_of e.item) (count_key pool status)
  finds e = ap₂ (λ x y. x && y) (value.same_text e.item.pool pool) (equal_numbers e.item.status status) ∙ sym (same_count e.item.pool pool e.item.status status)

  -- ---- the row of a count above 0

  pub finds_count : (old new : State) (rows : List Row) → Shown FIND_COUNT.now (Text pool ∷ number status ∷ []) old new rows
      → (before : Hall) (c : HallRows) → IsWithin old before c → (rows ≡ map (λ n. number n ∷ []) (in_rows (c.counts pool status))) × IsWithin new before c
  finds_count old new rows shown before c held =
      let params = Text pool ∷ number status ∷ [] in
      let are = held.spelt.tables.each of_counts in
      let answer = shown_answer hall_schema FIND_COUNT.now find_count_is params old new rows held.spelt.schema shown in
      let same = shown_same FIND_COUNT.now params hall_schema find_count_is.plain old new rows held.spelt.schema shown in (
        finds_kept pairs rowid_of item_of key_of count_columns (old.now.trees 19) are.rows are.table _ 19 (equals 1 0 ∷ equals 2 1 ∷ []) (cell 3 ∷ []) (rising 1 ∷ rising 2 ∷ []) params old.now.trees refl refl
            rows answer (count_key pool status) finds (λ r. number r.machines ∷ []) (λ e. refl)
            ∙ sym (map-map (λ n. number n ∷ []) machines_of _) ∙ ap (map (λ n. number n ∷ [])) (are.counted pool status),
        record {
          spelt = subst (λ (d : Database). Spells d c) (sym same.0.now_is) held.spelt;
          committed_schema = ap (λ (d : Database). d.schema) same.0.committed_is ∙ held.committed_schema;
          kept = subst (λ (d : Database). SpellHall d.trees before) (sym same.0.committed_is) held.kept;
          mode = same.0.mode ∙ held.mode;
        },
      )

  -- ---- writes

  -- the entry with this key, with another number
  recounted : (n : ℕ) (e : Entry CountRow) → same_key pairs (key_of e.item) (count_key pool status) ≡ true → record { pool = e.item.pool; status = e.item.status; machines = n } ≡ row_with n
  recounted n e t =
      let same : key_of e.item ≡ count_key pool status = key-same pairs (key_of e.item) (count_key pool status) t in
      let pool_is : e.item.pool ≡ pool = cc in
      let status_is : e.item.status ≡ status = cc in
      ap₂ (λ p s. record { pool = p; status = s; machines = n }) pool_is status_is

  module _ {C : Type 0} (state_of : C → State) where
    adds_count : (n : ℕ) (before : Hall) (c : HallRows) → c.counts pool status ≡ 0 → 0 < n → Makes state_of ADD_COUNT.now (Text pool ∷ number status ∷ number n ∷ []) before c (with_count c pool status n)
    adds_count n before c none high one other held count ran =
        let old = state_of one in
        let new = state_of other in
        let params = Text pool ∷ number status ∷ number n ∷ [] in
        let are = held.spelt.tables.each of_counts in
        let it = adds_kept pairs rowid_of item_of key_of count_columns (old.now.trees 19) are.rows are.table hall_schema 11 counts_table refl old new held.spelt.schema refl ADD_COUNT.now params count ran.0
        (lit Null ∷ parameter 0 ∷ parameter 1 ∷ parameter 2 ∷ []) 4 (add_is of_counts) (record { rowid = next_rowid (old.now.trees 19); item = row_with n }) (λ _. no_row _ (are.counted pool status ∙ ap in_rows none)) (Null ∷ params) refl
        (rw (value.cast-Null, value.cast-Int, value.cast-Int) refl) in
        within ADD_COUNT.now params old new before c _ count held ran (sets of_counts old.now new.now c held.spelt it.0.0 _ it.0.1
        (record { rows = _; table = it.0.2; counted = recount are.rows _ c.counts are.counted pool status n (Some (row_with n)) (one_row n high) (at-put are.rows (count_key pool status) (row_with n)) }))

    sets_count : (n : ℕ) (before : Hall) (c : HallRows) → 0 < c.counts pool status → 0 < n → Makes state_of SET_COUNT.now (Text pool ∷ number status ∷ number n ∷ []) before c (with_count c pool status n)
    sets_count n before c some high one other held count ran =
        let old = state_of one in
        let new = state_of other in
        let params = Text pool ∷ number status ∷ number n ∷ [] in
        let are = held.spelt.tables.each of_counts in
        let was = some_row _ (c.counts pool status) (are.counted pool status) some in
        let it = changes_kept pairs rowid_of item_of key_of count_columns (old.now.trees 19) are.rows are.table hall_schema 11 counts_table refl old new held.spelt.schema refl SET_COUNT.now params (equals 1 0 ∷ equals 2 1 ∷ []) refl
        (cell 0 ∷ cell 1 ∷ cell 2 ∷ parameter 2 ∷ []) never_follows (row_with n) (λ _. true) (λ e. record e { item = record { pool = e.item.pool; status = e.item.status; machines = n } }) (λ e. refl) (recounted n)
        (λ e. rw (value.cast-Int, value.cast-Int, value.cast-Int) refl) (λ e. finds e ∙ sym (and_true _)) set_count_is count ran.0 was.0 was.1 (λ _. refl) in
        within SET_COUNT.now params old new before c _ count held ran (sets of_counts old.now new.now c held.spelt it.0 _ it.1
        (record { rows = _; table = it.2; counted = recount are.rows _ c.counts are.counted pool status n (Some (row_with n)) (one_row n high) (at-put are.rows (count_key pool status) (row_with n)) }))

    pub removes_count : (before : Hall) (c : HallRows) → Makes state_of REMOVE_COUNT.now (Text pool ∷ number status ∷ []) before c (with_count c pool status 0)
    removes_count before c one other held count ran =
        let old = state_of one in
        let new = state_of other in
        let params = Text pool ∷ number status ∷ [] in
        let are = held.spelt.tables.each of_counts in
        let it = removes_kept pairs rowid_of item_of key_of count_columns (old.now.trees 19) are.rows are.table hall_schema 11 counts_table refl old new held.spelt.schema refl REMOVE_COUNT.now params
        (equals 1 0 ∷ equals 2 1 ∷ []) refl remove_count_is count ran.0 (goes_alone of_counts (λ is. cc)) (count_key pool status) finds in
        within REMOVE_COUNT.now params old new before c _ count held ran (sets of_counts old.now new.now c held.spelt it.0 _ it.1
        (record { rows = _; table = it.2; counted = recount are.rows _ c.counts are.counted pool status 0 None refl (at-gone are.rows (count_key pool status)) }))

    pub puts_count : (was n : ℕ) (before : Hall) (c : HallRows) → was ≡ c.counts pool status → 0 < n → Makes state_of (text_from was) (Text pool ∷ number status ∷ number n ∷ []) before c (with_count c pool status n)
    puts_count zero n before c is high = adds_count n before c (sym is) high
    puts_count (suc was) n before c is high = rw (not_none was) (sets_count n before c (omega (arith, is)) high)

-- ---- what the query answers

abbrev outputs : CountRow → Output
outputs c = ((Text c.pool ∷ number c.status ∷ []), count_columns c)

then_end : (o : Ordering) → ordering_then o Equal ≡ o
then_end Less = refl
then_end other = refl

key_order : (a b : List ℕ) (s t : ℕ) → pairs.cmp (count_key a s) (count_key b t) ≡ ordering_then (slice_cmp nat_cmp a b) (nat_cmp s t)
unfolding pairs
key_order a b s t = ap (ordering_then (slice_cmp nat_cmp a b)) (then_end (ordering_then (nat_cmp s t) Equal) ∙ then_end (nat_cmp s t))

before : (one other : CountRow) → pairs.cmp (key_of one) (key_of other) ≡ Less → IsBefore list_counts_query (outputs one) (outputs other)
unfolding numbers
before one other low =
    rw (value_cmp-Text one.pool other.pool, value_cmp-Int (pos one.status) (pos other.status), number_order one.status other.status, then_end (nat_cmp one.status other.status))
    (sym (key_order one.pool other.pool one.status other.status) ∙ low)

-- the rows are those of a hall's counts above 0, in order
abbrev pub Lists : Hall → List Row → Type 0
Lists h rows = (table : CountRows) × StandUnder key_of table × Have table (λ pool status. how_many (is_in pool status) h.machines) × (rows ≡ map count_columns (listed table))

pub lists_counts : (old new : State) → HasCleanDisk new → Survives old new (CommitsShowing LIST_COUNTS.now [] old) → (r : Result (List Row) Error) → IfOk r (Shown LIST_COUNTS.now [] old new) → IfErr r (FailsToQuery LIST_COUNTS.now [] old new)
    → IsTableRead old new r Lists
lists_counts old new clean survives r ok err =
    asked LIST_COUNTS.now [] (find_is of_counts) old new (λ rows. rows) Lists r ok err survives clean (λ h rows got spells.
    let are = spells.tables.each of_counts in (
      are.rows,
      are.table.under,
      λ pool status. are.counted pool status ∙ ap in_rows (spells.agrees.counts pool status),
      lists_kept pairs rowid_of item_of key_of count_columns (old.now.trees 19) are.rows are.table _ 19 [] (cell 1 ∷ cell 2 ∷ cell 3 ∷ []) (rising 1 ∷ rising 2 ∷ []) [] old.now.trees refl refl rows got (λ c. true) (λ e. refl) outputs (λ e. refl) before
          ∙ ap (map count_columns) (filter_all (λ (c : CountRow). true) (listed are.rows) (all_of (λ (c : CountRow). true ≡ true) (λ c. refl) (listed are.rows))),
    ))

-- ---- as counts

text_of : Value → List ℕ
text_of (Text text) = text
text_of v = []

number_of : Value → ℕ
number_of (Int (pos n)) = n
number_of v = 0

-- the count in a row
in_row : Row → CountRow
in_row row = record { pool = text_of (column row 0); status = number_of (column row 1); machines = number_of (column row 2) }

abbrev as_row : Count → CountRow
as_row c = record { pool = c.pool; status = status_number c.status; machines = c.machines }

same_rows : (xs : List CountRow) (cs : List Count) → map count_columns xs ≡ map count_values cs → xs ≡ map as_row cs
unfolding in_row text_of number_of
same_rows xs cs e = sym (map_back count_columns in_row (λ c. refl) xs) ∙ ap (map in_row) e ∙ map-map in_row count_values cs

first_number : (n k : ℕ) (ns : List ℕ) → n ∷ ns ≡ in_rows k → (n ≡ k) × (1 ≤ n)
first_number n zero ns e = absurd cc
first_number n (suc k) ns e = let same : n ≡ suc k = cc in (same, omega arith)

counted_is : (pool : List ℕ) (status : Status) (cs : List Count) (k : ℕ) → map (λ (c : Count). c.machines) (filter (is_about pool status) cs) ≡ in_rows k → counted pool status cs ≡ k
counted_is pool status [] zero e = refl
counted_is pool status [] (suc k) e = absurd cc
counted_is pool status (c ∷ cs) k e = by (is_about pool status c) (counted_is pool status cs k) e
  where
    by : (b : Bool) → (map (λ (c : Count). c.machines) (filter (is_about pool status) cs) ≡ in_rows k → counted pool status cs ≡ k)
        → map (λ (c : Count). c.machines) (cond b (c ∷ filter (is_about pool status) cs) (filter (is_about pool status) cs)) ≡ in_rows k → (if b then c.machines else counted pool status cs) ≡ k
    by true more e = (first_number c.machines k _ e).0
    by false more e = more e

in_order : (cs : List Count) → AreRising pairs key_of (map as_row cs) → IsStrictlySortedBy count_cmp cs
unfolding IsStrictlySortedBy
in_order [] up = tt
in_order (c ∷ cs) up = (
  all_weaker _ (λ (z : Count). count_cmp c z ≡ Less) (λ z low. sym (key_order c.pool z.pool (status_number c.status) (status_number z.status)) ∙ low) cs
      (all_unmap (λ (r : CountRow). pairs.cmp (key_of (as_row c)) (key_of r) ≡ Less) as_row cs up.0),
  in_order cs up.1,
)

-- what is read of the rows of a hall's counts are its counts
pub are_counts : (h : Hall) (rows : List Row) → Lists h rows → (cs : List Count) → rows ≡ map count_values cs → AreHallCounts h cs
are_counts h rows (table, stand, have, listed_are) cs read =
    let same : listed table ≡ map as_row cs = same_rows (listed table) cs (sym listed_are ∙ read) in
    record {
      exact = λ pool status. counted_is pool status cs (how_many (is_in pool (status_number status)) h.machines)
          (ap (map (λ (c : Count). c.machines)) (filter_same _ _ (λ (c : Count). sym (same_count c.pool pool (status_number c.status) (status_number status))) cs)
          ∙ sym (map-map machines_of as_row _) ∙ ap (map machines_of) (sym (filter-map (λ (r : CountRow). same_key pairs (key_of r) (count_key pool (status_number status))) as_row cs)
          ∙ ap (filter (λ (r : CountRow). same_key pairs (key_of r) (count_key pool (status_number status)))) (sym same) ∙ listed_with_key pairs key_of table stand (count_key pool (status_number status)))
          ∙ have pool (status_number status));
      some = all_unmap (λ (r : CountRow). 1 ≤ r.machines) as_row cs (subst (AllByRecursion (λ (r : CountRow). 1 ≤ r.machines)) same
          (all_weaker _ _ (λ (r : CountRow) is. (first_number r.machines _ [] (sym (ap (λ o. map machines_of (option_to_list o)) is) ∙ have r.pool r.status)).1) (listed table) (AllByRecursion-listed key_of table stand)));
      ascending = in_order cs (subst (AreRising pairs key_of) same (AreRising-listed pairs key_of table stand));
    }
