-- Laws of the statements on a table, for the proofs of callers: what they ask and write.
use Rattle.sql_schema.specs.{Words.{append-nil, list_all, option_to_list, Row, Term, holds, eval_all, Trees, IsAnswer, overlay, cast_row, Values, State, Shown, works, Enforced, Key, Keys, Rows, at, listed, same_key, Hall, never_follows, TableOf, kept_row, HallRows, IsWithin, within, shown_within, finds_kept, lists_kept, adds_kept, sets_kept_if, removes_kept, removes_kept_where, output_of, IsBefore, uncounted, AreTables, Spells, and_true, IsCommandText, IsQueryText, IsReturningText, hall_schema}, Asking.Asks, AskingLaws.asks_by, TableStatements.{IsTable, shows_query, add_command, set_command, remove_command, with_item, without_item, without_where}, Writing.{Makes, Puts}}
use Rattle.std.proofs.Common.{◌≡◌, ◌⊎◌, ◌/◌, inl, inr, ℕ, List, [], ◌∷◌, ◌++◌, map, filter, length, Bool, true, false, true≢false, ◌&&◌, Option, Some, None, Less, refl, sym, ap, subst, ◌∙◌}

module _ {K X E : Type 0} {keys : Keys K} (t : TableOf keys X E) (is : IsTable t) where
  -- a row passes `WHERE` of a key if its key is that one
  with_key : (key : K) (e : E) → list_all (holds (t.key_values key ∷ kept_row t e ∷ [])) t.matches ≡ same_key keys (t.key_of (t.item e)) key
  with_key key e = subst (λ params. list_all (holds (params ∷ kept_row t e ∷ [])) t.matches ≡ same_key keys (t.key_of (t.item e)) key) (append-nil (t.key_values key)) (is.tests key [] e)

  -- ---- reads

  -- what the row with a key is shown as
  pub shows_row : (params : Row) (key : K) → ((e : E) → list_all (holds (params ∷ kept_row t e ∷ [])) t.matches ≡ same_key keys (t.key_of (t.item e)) key) → (order : List (Term × Key)) (db : Trees) (c : HallRows) → AreTables db c
      → (rows : List Row) → IsAnswer (shows_query t t.matches order) (overlay db []) params rows → rows ≡ map t.values_of (option_to_list (at (t.rows c) key))
  shows_row params key tests order db c tables rows a =
      finds_kept keys t.rowid t.item t.key_of t.columns (db t.table.tree) (t.rows c) (is.spelt db c tables) _ t.table.tree t.matches t.shown order params db refl (is.seen db) rows a key tests t.values_of (is.shows params)

  -- the row with a key, of a table that a hall has
  module _ (of : Hall → Rows keys X) (has : (c : HallRows) → t.rows c ≡ of c.hall) where
    pub finds : (sql : List ℕ) {order : List (Term × Key)} → IsQueryText hall_schema sql (shows_query t t.matches order) → (key : K) → Asks t.values_of sql (t.key_values key) (λ h. option_to_list (at (of h) key))
    finds sql {order = order} text key = asks_by text (λ db h spells rows a.
        shows_row (t.key_values key) key (with_key key) order db spells.hall_rows spells.tables rows a ∙ ap (λ all. map t.values_of (option_to_list (at all key))) (has spells.hall_rows ∙ ap of spells.agrees.hall))

    -- the rows that pass, by key; `by` is what a row is ordered by
    pub lists : (sql : List ℕ) (filters : List Term) → IsQueryText hall_schema sql (shows_query t filters t.by_key) → (params : Row) (p : X → Bool) → ((e : E) → list_all (holds (params ∷ kept_row t e ∷ [])) filters ≡ p (t.item e))
        → (by : X → Row) → ((e : E) → output_of (shows_query t filters t.by_key) params (kept_row t e) ≡ (by (t.item e), t.values_of (t.item e)))
        → ((one other : X) → keys.cmp (t.key_of one) (t.key_of other) ≡ Less → IsBefore (shows_query t filters t.by_key) (by one, t.values_of one) (by other, t.values_of other))
        → Asks t.values_of sql params (λ h. filter p (listed (of h)))
    lists sql filters text params p tests by shown rises = asks_by text (λ db h spells rows a.
        lists_kept keys t.rowid t.item t.key_of t.columns (db t.table.tree) (t.rows spells.hall_rows) (is.spelt db spells.hall_rows spells.tables) _ t.table.tree filters t.shown t.by_key
        params db refl (is.seen db) rows a p tests (λ x. (by x, t.values_of x)) shown rises
        ∙ ap (λ all. map t.values_of (filter p (listed all))) (has spells.hall_rows ∙ ap of spells.agrees.hall))

  -- ---- writes

  module _ {C : Type 0} (state_of : C → State) where
    -- INSERT of an item whose key is free
    pub adds : (sql : List ℕ) → IsCommandText hall_schema sql (add_command t) → (x : X) (before : Hall) (c : HallRows) → at (t.rows c) (t.key_of x) ≡ None → Makes state_of sql (t.values_of x) before c (with_item t c x)
    adds sql text x before c free one other held count ran =
        let old = state_of one in
        let new = state_of other in
        let e = t.entry (old.now.trees t.table.tree) x in
        let is_x = t.is_item (old.now.trees t.table.tree) x in
        let it = adds_kept keys t.rowid t.item t.key_of t.columns (old.now.trees t.table.tree) (t.rows c) (is.spelt old.now.trees c held.spelt.tables) hall_schema t.place t.table is.there old new held.spelt.schema refl
        sql (t.values_of x) count ran.0 t.given (length t.given) text e (λ _. subst (λ y. at (t.rows c) (t.key_of y) ≡ None) (sym is_x) free) (t.source x) (is.stores x) (is.becomes (old.now.trees t.table.tree) x) in
        within sql (t.values_of x) old new before c _ count held ran (subst (λ y. Spells new.now (with_item t c y)) is_x (is.sets old.now new.now c held.spelt it.0.0 _ it.0.1 it.0.2))

    -- UPDATE with RETURNING of one column, and then INSERT; `f` is what the UPDATE makes of whatever entry it finds
    pub puts : (set add : List ℕ) (changed : List Term) (names : List (List ℕ)) (terms : List Term) (width : ℕ) → length terms / width ≡ 1
        → IsReturningText hall_schema set (set_command t changed) (record { names = names; row = Values terms width }) → IsCommandText hall_schema add (add_command t)
        → (x : X) (others : Row) → t.values_of x ≡ t.key_values (t.key_of x) ++ others → (f : E → E) → ((e : E) → t.rowid (f e) ≡ t.rowid e)
        → ((e : E) → same_key keys (t.key_of (t.item e)) (t.key_of x) ≡ true → t.item (f e) ≡ x) → ((e : E) → cast_row (uncounted t.table) (eval_all changed (t.values_of x ∷ kept_row t e ∷ [])) ≡ kept_row t (f e))
        → Puts state_of set add (t.values_of x) (λ c. with_item t c x)
    puts set add changed names terms width one text text_of_add x others split f keeps same becomes = record { puts = step }
      where
        tests : (e : E) → list_all (holds (t.values_of x ∷ kept_row t e ∷ [])) t.matches ≡ (same_key keys (t.key_of (t.item e)) (t.key_of x) && true)
        tests e = subst (λ params. list_all (holds (params ∷ kept_row t e ∷ [])) t.matches ≡ same_key keys (t.key_of (t.item e)) (t.key_of x)) (sym split) (is.tests (t.key_of x) others e) ∙ sym (and_true _)

        step : (before : Hall) (c : HallRows) (first second : C) → IsWithin (state_of first) before c → (rows : List Row) → Shown set (t.values_of x) (state_of first) (state_of second) rows
            → (IsWithin (state_of second) before c × Makes state_of add (t.values_of x) before c (with_item t c x) × (length rows ≡ 0)) ⊎ (IsWithin (state_of second) before (with_item t c x) × (length rows ≡ 1))
        step before c first second held rows shown =
            let old = state_of first in
            let new = state_of second in
            let it = sets_kept_if keys t.rowid t.item t.key_of t.columns (old.now.trees t.table.tree) (t.rows c) (is.spelt old.now.trees c held.spelt.tables) hall_schema t.place t.table is.there old new held.spelt.schema refl
            set (t.values_of x) t.matches (is.seen old.now.trees) changed never_follows x (λ _. true) f keeps same becomes tests names terms width one text rows shown in
            elim it.2 [
              | inl none ↦ inl (
                subst (IsWithin new before) (is.same c)
                    (shown_within set (t.values_of x) _ _ text old new before c _ rows held shown (is.sets old.now new.now c held.spelt it.0 (t.rows c) it.1 none.1)),
                adds add text_of_add x before c (never (at (t.rows c) (t.key_of x)) refl none.2),
                none.0,
              )
              | inr there ↦ inr (shown_within set (t.values_of x) _ _ text old new before c _ rows held shown (is.sets old.now new.now c held.spelt it.0 _ it.1 there.2), there.0)
            ]
          where
            never : (o : Option X) → at (t.rows c) (t.key_of x) ≡ o → ((was : X) → at (t.rows c) (t.key_of x) ≡ Some was → true ≡ false) → o ≡ None
            never None is none = refl
            never (Some was) is none = absurd (true≢false (none was is))

    -- DELETE of the row with a key, where no row of another table is a child of one
    pub removes : (sql : List ℕ) → IsCommandText hall_schema sql (remove_command t t.matches) → ((olds : List Row) → works hall_schema Enforced 0 t.table.tree olds [] ≡ [])
        → (key : K) (before : Hall) (c : HallRows) → Makes state_of sql (t.key_values key) before c (without_item t c key)
    removes sql text alone key before c one other held count ran =
        let old = state_of one in
        let new = state_of other in
        let it = removes_kept keys t.rowid t.item t.key_of t.columns (old.now.trees t.table.tree) (t.rows c) (is.spelt old.now.trees c held.spelt.tables) hall_schema t.place t.table is.there old new held.spelt.schema refl
        sql (t.key_values key) t.matches (is.seen old.now.trees) text count ran.0 alone key (with_key key) in
        within sql (t.key_values key) old new before c _ count held ran (is.sets old.now new.now c held.spelt it.0 _ it.1 it.2)

    -- DELETE of the rows that pass
    pub removes_where : (sql : List ℕ) (filters : List Term) → IsCommandText hall_schema sql (remove_command t filters) → ((olds : List Row) → works hall_schema Enforced 0 t.table.tree olds [] ≡ [])
        → (params : Row) (p : X → Bool) → ((e : E) → list_all (holds (params ∷ kept_row t e ∷ [])) filters ≡ p (t.item e))
        → (before : Hall) (c : HallRows) → Makes state_of sql params before c (without_where t c p)
    removes_where sql filters text alone params p tests before c one other held count ran =
        let old = state_of one in
        let new = state_of other in
        let it = removes_kept_where keys t.rowid t.item t.key_of t.columns (old.now.trees t.table.tree) (t.rows c) (is.spelt old.now.trees c held.spelt.tables) hall_schema t.place t.table is.there old new held.spelt.schema refl
        sql params filters (is.seen old.now.trees) text count ran.0 alone p tests in
        within sql params old new before c _ count held ran (is.sets old.now new.now c held.spelt it.0 _ it.1 it.2)
