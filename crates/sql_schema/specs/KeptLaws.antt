-- Laws of tables that keep rows under rowids, for the proofs of callers: reads by key and of all rows, and writes.
use Rattle.sql_schema.specs.{Prelude.{IsPermutation-map, filter_none, filter-filter, length-filter_both, all_of, list_all, AllByRecursion, option_to_list, length-map, length_permutation, IsPermutation-sym, IsPermutation-cons, IsPermutation-trans, Row, cast_row, Table, Schema, Term, col, holds, eval_all, Trees, IsAnswer, Output, Query, page, overlay, Values, Insert, Update, Delete, with_rowid, row_at, Chosen, value_rows, State, Executes, Shown, one_permutation, Key, works, Has, Enforced, insert_by, has_key, delete_where, update_where, map-map, filter-map, ascending-filter, ascending_weaker, IsPermutation-filter, along_permutation, IsKeyedBy-insert_by, IsKeyedBy-delete_where, IsKeyedBy-update_where, Keys, Rows, at, put, gone, rows_where, listed, same_key, key-same, StandUnder}, Cascades.{IsIdle, NeverFollows}, ListLaws.{any_order, and_true, insert_by-permutes, map_has}, Queries.{over_table, output_of, IsBefore, from_one}, QueryLaws.{items_by, items_in_order}, Rows.{row_of, uncounted}, Statements.{IsCommandText, IsReturningText, SetsRows, only}, TableLaws.{inserts, deletes_alone, changes, changes_showing}, ListedLaws.{AreRising-listed, listed_at, listed_with_key, listed-put-new, listed-put-there, listed-gone, listed-where, StandUnder-put, StandUnder-gone, StandUnder-where}, TableOf.IsKept}
use Rattle.std.proofs.lemmas.{Bool.and_parts, List.nil_from_length}
use Rattle.std.proofs.Common.{◌≡◌, ◌⊎◌, ◌&&◌, inl, inr, ◌≤◌, ◌/◌, not, ℕ, ℤ, List, [], ◌∷◌, map, filter, length, slice_get, Bool, true, false, cond, Option, Some, None, Ok, Less, refl, sym, ap, subst, ◌∙◌, arith, IsPermutation}

-- ---- lists

none_permutes : {X : Type 0} (ys : List X) → IsPermutation [] ys → ys ≡ []
none_permutes [] same = refl
none_permutes (y ∷ ys) same = absurd (omega (arith, length_permutation [] (y ∷ ys) same))

no_map : {A B : Type 0} (f : A → B) (xs : List A) → map f xs ≡ [] → xs ≡ []
no_map f [] e = refl
no_map f (x ∷ xs) e = absurd (let l = ap length e in omega (arith, l))

few : {X : Type 0} (o : Option X) → length (option_to_list o) ≤ 1
few None = omega arith
few (Some x) = omega arith

and_none : (b : Bool) → (b && false) ≡ false
and_none true = refl
and_none false = refl

-- the members don't depend on the order
pub has_along : {X : Type 0} (z : X) (xs ys : List X) → IsPermutation xs ys → Has xs z → Has ys z
has_along z = along_permutation (λ xs ys. Has xs z → Has ys z) (λ xs h. h) (λ x xs ys more h. elim h [ inl same ↦ inl same | inr there ↦ inr (more there) ])
    (λ x y xs h. elim h [ inl same ↦ inr (inl same) | inr rest ↦ elim rest [ inl same ↦ inl same | inr there ↦ inr (inr there) ] ]) (λ xs ys zs a b h. b (a h))

-- lists whose items give the same
map_same_on : {X Y : Type 0} (f g : X → Y) (xs : List X) → ((x : X) → Has xs x → f x ≡ g x) → map f xs ≡ map g xs
map_same_on f g [] same = refl
map_same_on f g (x ∷ xs) same = rw (same x (inl refl), map_same_on f g xs (λ z h. same z (inr h))) refl

filter_same_on : {X : Type 0} (p q : X → Bool) (xs : List X) → ((x : X) → Has xs x → p x ≡ q x) → filter p xs ≡ filter q xs
filter_same_on p q [] same = refl
filter_same_on p q (x ∷ xs) same = rw (same x (inl refl), filter_same_on p q xs (λ z h. same z (inr h))) refl

-- where one test lets at most one item pass, so does a narrower one
shorter : {X : Type 0} (p q : X → Bool) → ((x : X) → p x ≡ true → q x ≡ true) → (xs : List X) → length (filter p xs) ≤ length (filter q xs)
shorter p q narrows xs = omega (arith, ap length (filter-filter p q narrows xs), length-filter_both p (λ x. not (p x)) (λ x. refl) (filter q xs))

-- where nothing passes, nothing is changed
update_none : {X : Type 0} (p : X → Bool) (f : X → X) (xs : List X) → filter p xs ≡ [] → update_where p f xs ≡ xs
update_none p f [] none = refl
update_none p f (x ∷ xs) none = go (p x) none (update_none p f xs)
  where
    go : (b : Bool) → cond b (x ∷ filter p xs) (filter p xs) ≡ [] → (filter p xs ≡ [] → update_where p f xs ≡ xs) → cond b (f x) x ∷ update_where p f xs ≡ x ∷ xs
    go true none more = absurd (let l = ap length none in omega (arith, l))
    go false none more = ap (λ l. x ∷ l) (more none)

-- ---- a table

module _ {K X E : Type 0} (keys : Keys K) (rowid : E → ℤ) (item : E → X) (key_of : X → K) (columns : X → Row) where
  abbrev entry_columns : E → Row
  entry_columns e = columns (item e)

  abbrev row : E → Row
  row = row_of rowid entry_columns

  abbrev has : K → X → Bool
  has key x = same_key keys (key_of x) key

  -- the rows with this one, new or in place of the one that has its key
  abbrev with_row : Rows keys X → X → Rows keys X
  with_row rows x = put (key_of x) x rows

  module _ (stored : List Row) (rows : Rows keys X) (is : IsKept rowid item key_of columns stored rows) where
    -- an entry's item stands under its key
    pub entry_at : (e : E) → Has is.entries e → at rows (key_of (item e)) ≡ Some (item e)
    entry_at e h = listed_at keys key_of rows is.under (item e) (has_along (item e) _ _ (IsPermutation-sym _ _ is.same) (map_has item is.entries e h))

    -- the entries with a key are that of the key's row, or none
    pub entries_with_key : (key : K) → filter (has key) (map item is.entries) ≡ option_to_list (at rows key)
    entries_with_key key = go (at rows key) (listed_with_key keys key_of rows is.under key) (IsPermutation-filter (has key) _ _ is.same)
      where
        go : (o : Option X) → filter (has key) (listed rows) ≡ option_to_list o → IsPermutation (filter (has key) (listed rows)) (filter (has key) (map item is.entries)) → filter (has key) (map item is.entries) ≡ option_to_list o
        go None e same = none_permutes _ (subst (λ l. IsPermutation l (filter (has key) (map item is.entries))) e same)
        go (Some x) e same = one_permutation x _ (subst (λ l. IsPermutation l (filter (has key) (map item is.entries))) e same)

    map_with_key : (key : K) → map item (filter (λ e. has key (item e)) is.entries) ≡ option_to_list (at rows key)
    map_with_key key = sym (filter-map (has key) item is.entries) ∙ entries_with_key key

    at_most_one : (key : K) → length (filter (λ e. has key (item e)) is.entries) ≤ 1
    at_most_one key = omega (arith, length-map (filter (λ e. has key (item e)) is.entries) item, ap length (map_with_key key), few (at rows key))

    -- ---- reads

    module _ (limit : Term) (tree : ℕ) (filters project : List Term) (order : List (Term × Key)) (params : Row) (db : Trees) (here : db tree ≡ stored) (seen : overlay db [] tree ≡ db tree) (answer : List Row)
        (a : IsAnswer (over_table limit tree filters project order) (overlay db []) params answer) where
      abbrev q : Query
      q = over_table limit tree filters project order

      -- the row with a key, as the query shows it
      pub finds_kept : (key : K) → ((e : E) → list_all (holds (params ∷ row e ∷ [])) filters ≡ has key (item e)) → (shown : X → Row) → ((e : E) → eval_all project (params ∷ row e ∷ []) ≡ shown (item e))
          → answer ≡ page q params (map shown (option_to_list (at rows key)))
      finds_kept key tests shown shows =
          items_in_order rowid entry_columns filters params (λ e. has key (item e)) tests limit tree project order is.entries db (here ∙ is.spelt) seen answer a (any_order _ _ (at_most_one key))
          ∙ ap (page q params) (map_same_on _ _ _ (λ e h. shows e) ∙ sym (map-map shown item _) ∙ ap (map shown) (map_with_key key))

      -- the rows that pass, in the order of their keys
      pub lists_kept : (p : X → Bool) → ((e : E) → list_all (holds (params ∷ row e ∷ [])) filters ≡ p (item e)) → (outputs : X → Output) → ((e : E) → output_of q params (row e) ≡ outputs (item e))
          → ((one other : X) → keys.cmp (key_of one) (key_of other) ≡ Less → IsBefore q (outputs one) (outputs other))
          → answer ≡ page q params (map (λ x. (outputs x).1) (filter p (listed rows)))
      lists_kept p tests outputs are rises =
          items_by rowid entry_columns filters params (λ e. p (item e)) tests limit tree project order is.entries db (here ∙ is.spelt) seen answer a outputs (filter p (listed rows))
          (subst (IsPermutation (map outputs (filter p (listed rows))))
          (ap (map outputs) (filter-map p item is.entries) ∙ map-map outputs item _ ∙ map_same_on _ _ _ (λ e h. sym (are e)))
          (IsPermutation-map outputs _ _ (IsPermutation-filter p _ _ is.same)))
          (ascending_weaker _ _ rises (filter p (listed rows)) (ascending-filter _ p (listed rows) (AreRising-listed keys key_of rows is.under)))

    -- ---- writes

    module _ (schema : Schema) (at_place : ℕ) (t : Table) (there : slice_get schema.tables at_place ≡ Some (uncounted t)) (old new : State) (schema_is : old.now.schema ≡ schema) (here : old.now.trees t.tree ≡ stored)
        (sql : List ℕ) (params : Row) where
      -- the table keeps other rows, and no other table changes
      abbrev pub KeepsNow : Rows keys X → Type 0
      KeepsNow now = (after : List Row) × SetsRows schema t.tree old.now new.now after × IsKept rowid item key_of columns after now

      -- INSERT of an entry, which says that its rowid was free; then its key has to be
      pub adds_kept : (count : ℕ) → Executes sql params old new (Ok count) → (terms : List Term) (width : ℕ) → IsCommandText schema sql (Insert at_place (Values terms width)) → (e : E)
          → (has_key rowid is.entries (rowid e) ≡ false → at rows (key_of (item e)) ≡ None) → (source : Row)
          → value_rows params width (length terms / width) terms ≡ source ∷ [] → with_rowid Chosen (old.now.trees t.tree) (cast_row (uncounted t) source) ≡ row e
          → KeepsNow (with_row rows (item e)) × (has_key rowid is.entries (rowid e) ≡ false)
      adds_kept count ran terms width text e free source values becomes =
          let it = inserts rowid entry_columns schema at_place t there old new schema_is is.entries (here ∙ is.spelt) sql params terms width text count ran e source values becomes in (
            (
              map row (insert_by rowid is.entries e),
              it.0,
              record {
                entries = insert_by rowid is.entries e;
                spelt = refl;
                keyed = IsKeyedBy-insert_by rowid is.entries e is.keyed;
                same = IsPermutation-trans _ _ _ (listed-put-new keys key_of rows is.under (item e) (free it.1)) (IsPermutation-trans _ _ _ (IsPermutation-cons (item e) _ _ is.same)
                    (IsPermutation-map item _ _ (IsPermutation-sym _ _ (insert_by-permutes rowid e is.entries it.1))));
                under = StandUnder-put keys key_of rows is.under (item e);
              },
            ),
            it.1,
          )

      module _ (filters : List Term) (seen : overlay old.now.trees [] t.tree ≡ old.now.trees t.tree) where
        -- DELETE of the rows that pass, where no row of another table is a child of theirs
        module _ (text : IsCommandText schema sql (Delete at_place (only (from_one t.tree filters (col 1 0 ∷ []) [])))) (count : ℕ) (ran : Executes sql params old new (Ok count)) where
          deletes_kept : (p : X → Bool) (left : Rows keys X) → StandUnder key_of left → listed left ≡ filter (λ x. not (p x)) (listed rows) → ((e : E) → list_all (holds (params ∷ row e ∷ [])) filters ≡ p (item e))
              → ((mid : Trees) (ids : List ℤ) → IsPermutation (map rowid (filter (λ e. p (item e)) is.entries)) ids → AllByRecursion (λ (u : Table). (u.tree ≡ t.tree → ⊥) → mid u.tree ≡ old.now.trees u.tree) schema.tables
              → AllByRecursion (IsIdle mid) (works schema Enforced 0 t.tree (map (row_at (old.now.trees t.tree)) ids) []))
              → KeepsNow left
          deletes_kept p left stand are tests idle =
              let goes = λ (e : E). p (item e) in (
                map row (delete_where goes is.entries),
                deletes_alone rowid entry_columns schema at_place t there old new schema_is is.entries (here ∙ is.spelt) filters params goes tests is.keyed seen sql text count ran idle,
                record {
                  entries = delete_where goes is.entries;
                  spelt = refl;
                  keyed = IsKeyedBy-delete_where rowid goes is.entries is.keyed;
                  same = subst (λ l. IsPermutation l (map item (delete_where goes is.entries))) (sym are)
                      (subst (IsPermutation (filter (λ x. not (p x)) (listed rows))) (filter-map (λ x. not (p x)) item is.entries) (IsPermutation-filter (λ x. not (p x)) _ _ is.same));
                  under = stand;
                },
              )

          -- of the row with a key
          pub removes_alone : (key : K) → ((e : E) → list_all (holds (params ∷ row e ∷ [])) filters ≡ has key (item e))
              → ((mid : Trees) (ids : List ℤ) → IsPermutation (map rowid (filter (λ e. has key (item e)) is.entries)) ids → AllByRecursion (λ (u : Table). (u.tree ≡ t.tree → ⊥) → mid u.tree ≡ old.now.trees u.tree) schema.tables
              → AllByRecursion (IsIdle mid) (works schema Enforced 0 t.tree (map (row_at (old.now.trees t.tree)) ids) []))
              → KeepsNow (gone key rows)
          removes_alone key = deletes_kept (has key) (gone key rows) (StandUnder-gone keys key_of rows is.under key) (listed-gone keys key_of rows is.under key)

          -- the same, where no table with ON DELETE refers to this one
          module _ (quiet : (olds : List Row) → works schema Enforced 0 t.tree olds [] ≡ []) where
            pub removes_kept : (key : K) → ((e : E) → list_all (holds (params ∷ row e ∷ [])) filters ≡ has key (item e)) → KeepsNow (gone key rows)
            removes_kept key tests = removes_alone key tests (λ mid ids same rest. subst (AllByRecursion (IsIdle mid)) (sym (quiet (map (row_at (old.now.trees t.tree)) ids))) tt)

            pub removes_kept_where : (p : X → Bool) → ((e : E) → list_all (holds (params ∷ row e ∷ [])) filters ≡ p (item e)) → KeepsNow (rows_where (λ x. not (p x)) rows)
            removes_kept_where p tests =
                deletes_kept p (rows_where (λ x. not (p x)) rows) (StandUnder-where keys key_of rows is.under (λ x. not (p x))) (listed-where keys key_of rows is.under (λ x. not (p x))) tests
                (λ mid ids same rest. subst (AllByRecursion (IsIdle mid)) (sym (quiet (map (row_at (old.now.trees t.tree)) ids))) tt)

        -- UPDATE of the row with a key, if it passes; `f` is what it makes of whatever entry it finds
        module _ (set : List Term) (stays : NeverFollows schema) (x : X) (q : X → Bool) (f : E → E) (keeps : (e : E) → rowid (f e) ≡ rowid e) (gives : (e : E) → has (key_of x) (item e) ≡ true → item (f e) ≡ x)
            (becomes : (e : E) → cast_row (uncounted t) (eval_all set (params ∷ row e ∷ [])) ≡ row (f e)) (tests : (e : E) → list_all (holds (params ∷ row e ∷ [])) filters ≡ (has (key_of x) (item e) && q (item e))) where
          abbrev finds : E → Bool
          finds e = has (key_of x) (item e) && q (item e)

          abbrev changed_rows : List Row
          changed_rows = map row (update_where finds f is.entries)

          -- the entry with the key has its row's item
          on_entries : (was : X) → at rows (key_of x) ≡ Some was → (e : E) → Has is.entries e → finds e ≡ (has (key_of x) (item e) && q was)
          on_entries was some e found = by (has (key_of x) (item e)) refl
            where
              by : (b : Bool) → has (key_of x) (item e) ≡ b → (b && q (item e)) ≡ (b && q was)
              by true same =
                  let both : Some (item e) ≡ Some was = sym (subst (λ k. at rows k ≡ Some (item e)) (key-same keys (key_of (item e)) (key_of x) same) (entry_at e found)) ∙ some in
                  let it : item e ≡ was = cc in
                  ap q it
              by false same = refl

          changed : (was : X) → at rows (key_of x) ≡ Some was → ((e : E) → Has is.entries e → finds e ≡ has (key_of x) (item e))
              → IsKept rowid item key_of columns changed_rows (with_row rows x)
          changed was some all = record {
            entries = update_where finds f is.entries;
            spelt = refl;
            keyed = IsKeyedBy-update_where rowid finds f keeps is.entries is.keyed;
            same = subst (λ l. IsPermutation l (map item (update_where finds f is.entries))) (sym (listed-put-there keys key_of rows is.under x was some))
                (subst (IsPermutation (map swap (listed rows))) (map-map swap item is.entries ∙ map_same_on _ _ is.entries (λ e found. swapped e _ _ (all e found) refl) ∙ sym (map-map item _ is.entries)) (IsPermutation-map swap _ _ is.same));
            under = StandUnder-put keys key_of rows is.under x;
          }
            where
              swap : X → X
              swap y = cond (has (key_of x) y) x y

              swapped : (e : E) (b c : Bool) → b ≡ c → has (key_of x) (item e) ≡ c → cond c x (item e) ≡ item (cond b (f e) e)
              swapped e true c same here = let t : has (key_of x) (item e) ≡ true = here ∙ sym same in ap (λ d. cond d x (item e)) (sym same) ∙ sym (gives e t)
              swapped e false c same here = ap (λ d. cond d x (item e)) (sym same)

          fewer : length (filter finds is.entries) ≤ length (filter (λ e. has (key_of x) (item e)) is.entries)
          fewer = shorter finds (λ e. has (key_of x) (item e)) (λ e both. (and_parts (has (key_of x) (item e)) (q (item e)) both).0) is.entries

          one_found : length (filter finds is.entries) ≤ 1
          one_found = omega (arith, fewer, at_most_one (key_of x))

          -- without RETURNING, where the key has a row
          pub changes_kept : IsCommandText schema sql (Update at_place (only (from_one t.tree filters (col 1 0 ∷ set) []))) → (count : ℕ) → Executes sql params old new (Ok count) → (was : X) → at rows (key_of x) ≡ Some was
              → ((y : X) → q y ≡ true) → KeepsNow (with_row rows x)
          changes_kept text count ran was some all = (
            changed_rows,
            changes rowid entry_columns schema at_place t there old new schema_is is.entries (here ∙ is.spelt) filters params finds tests is.keyed seen set one_found stays f keeps becomes sql text count ran,
            changed was some (λ e found. ap (λ b. has (key_of x) (item e) && b) (all (item e)) ∙ and_true _),
          )

          -- with RETURNING
          module _ (names : List (List ℕ)) (terms : List Term) (width : ℕ) (one : length terms / width ≡ 1)
              (text : IsReturningText schema sql (Update at_place (only (from_one t.tree filters (col 1 0 ∷ set) []))) (record { names = names; row = Values terms width })) (shown : List Row) (h : Shown sql params old new shown) where
            -- One row is shown where the key has a row that passes, and then the new one is in its place. Else none is shown, and the rows stay.
            abbrev pub SetsOne : List Row → Type 0
            SetsOne after =
                ((length shown ≡ 0) × IsKept rowid item key_of columns after rows × ((was : X) → at rows (key_of x) ≡ Some was → q was ≡ false))
                ⊎ ((length shown ≡ 1) × ((was : X) × (at rows (key_of x) ≡ Some was) × (q was ≡ true)) × IsKept rowid item key_of columns after (with_row rows x))

            pub sets_kept_if : (after : List Row) × SetsRows schema t.tree old.now new.now after × SetsOne after
            sets_kept_if =
                let it = changes_showing rowid entry_columns schema at_place t there old new schema_is is.entries (here ∙ is.spelt) filters params finds tests is.keyed seen set one_found stays f keeps becomes sql names terms width one text shown h in
                (changed_rows, it.0, go (at rows (key_of x)) refl (map_with_key (key_of x)) it.1)
              where
                -- none passes: nothing is changed
                stays_as : filter finds is.entries ≡ [] → IsKept rowid item key_of columns changed_rows rows
                stays_as none = record { entries = is.entries; spelt = ap (map row) (update_none _ f is.entries none); keyed = is.keyed; same = is.same; under = is.under }

                by_test : (was : X) → at rows (key_of x) ≡ Some was → length (filter (λ e. has (key_of x) (item e)) is.entries) ≡ 1 → length shown ≡ length (filter finds is.entries) → (b : Bool) → q was ≡ b
                    → SetsOne changed_rows
                by_test was some single many true fits =
                    let all : (e : E) → Has is.entries e → finds e ≡ has (key_of x) (item e) = λ e found. on_entries was some e found ∙ ap (λ b. has (key_of x) (item e) && b) fits ∙ and_true _ in
                    inr (many ∙ ap length (filter_same_on _ _ is.entries all) ∙ single, (was, some, fits), changed was some all)
                by_test was some single many false fails =
                    let none : filter finds is.entries ≡ [] =
                    filter_same_on _ (λ _. false) is.entries (λ e found. on_entries was some e found ∙ ap (λ b. has (key_of x) (item e) && b) fails ∙ and_none _) ∙ filter_none (λ _. false) is.entries (all_of (λ _. false ≡ false) (λ _. refl) is.entries) in
                    inl (many ∙ ap length none, stays_as none, λ other is_there. let same : Some other ≡ Some was = sym is_there ∙ some in let it : other ≡ was = cc in ap q it ∙ fails)

                go : (o : Option X) → at rows (key_of x) ≡ o → map item (filter (λ e. has (key_of x) (item e)) is.entries) ≡ option_to_list (at rows (key_of x)) → length shown ≡ length (filter finds is.entries)
                    → SetsOne changed_rows
                go None none found many =
                    let empty : filter (λ e. has (key_of x) (item e)) is.entries ≡ [] = no_map item _ (found ∙ ap option_to_list none) in
                    let passing : filter finds is.entries ≡ [] =
                    nil_from_length _ (let l = ap length empty in omega (arith, l, fewer)) in
                    inl (many ∙ ap length passing, stays_as passing, λ was some. absurd (let e = sym none ∙ some in cc))
                go (Some was) some found many = by_test was some (sym (length-map _ item) ∙ ap length (found ∙ ap option_to_list some)) many (q was) refl
