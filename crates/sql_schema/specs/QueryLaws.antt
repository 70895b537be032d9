-- Laws of queries over one table, for the proofs of callers: what such a query answers.
use Rattle.sql_schema.specs.{Prelude.{IsPermutation-map, list_all, Null, Row, Schema, Term, eval_all, holds, Trees, IsAscending, Query, IsAnswer, output, output_cmp, page, Output, overlay, State, Shown, reads_as, Key, output_cmp_total, IsPermutation-refl, IsPermutation-trans, sorted_unique, map-map, filter-map, filter_same, ascending-map}, Queries.{over_table, passing, output_of, IsBefore}, Rows.row_of, Statements.IsQueryText}
use Rattle.std.proofs.Common.{◌≡◌, ℕ, ℤ, List, [], ◌∷◌, ◌++◌, map, filter, Bool, true, false, cond, refl, sym, ap, subst, subst₂, ◌∙◌, IsPermutation, flat_map}

found : {X : Type 0} (p : Row → Bool) (f : Row → X) (rows : List Row) → flat_map (λ r. cond (p r) (f r ∷ []) []) rows ≡ map f (filter p rows)
found p f [] = refl
found p f (r ∷ rows) = go (p r) (found p f rows)
  where
    go : (b : Bool) → flat_map (λ r. cond (p r) (f r ∷ []) []) rows ≡ map f (filter p rows)
        → cond b (f r ∷ []) [] ++ flat_map (λ r. cond (p r) (f r ∷ []) []) rows ≡ map f (cond b (r ∷ filter p rows) (filter p rows))
    go true more = ap (λ l. f r ∷ l) more
    go false more = more

-- ---- any query over one table

module _ (limit : Term) (tree : ℕ) (filters project : List Term) (order : List (Term × Key)) where
  abbrev query : Query
  query = over_table limit tree filters project order

  module _ (db : Trees) (params : Row) (rows : List Row) (here : overlay db [] tree ≡ db tree) (a : IsAnswer query (overlay db []) params rows) where
    kept : a.kept ≡ map (output_of query params) (passing filters params (db tree))
    kept =
        let staged : a.staged ≡ map (λ r. params ∷ r ∷ []) (passing filters params (db tree)) =
        a.grouped ∙ found _ (λ r. params ∷ r ∷ []) (overlay db [] tree) ∙ ap (λ l. map (λ r. params ∷ r ∷ []) (passing filters params l)) here in
        a.distinct ∙ ap (map (output query)) staged ∙ map-map (output query) (λ r. params ∷ r ∷ []) _

    -- a strictly ascending list of what the query shows is the answer
    pub answer_by : (xs : List Output) → IsPermutation xs (map (output_of query params) (passing filters params (db tree))) → IsAscending (IsBefore query) xs
        → rows ≡ page query params (map (λ (o : Output). o.1) xs)
    answer_by xs same up =
        let ordered = sorted_unique (output_cmp query) (output_cmp_total query) xs a.ordered up
        (IsPermutation-trans _ _ _ same (subst (λ k. IsPermutation k a.ordered) kept a.same)) a.sorted in
        a.shown ∙ ap (λ ys. page query params (map (λ (o : Output). o.1) ys)) ordered

    -- in whatever order, before LIMIT
    pub answer_any : (seen : List Row) × IsPermutation (map (λ r. eval_all project (params ∷ r ∷ [])) (passing filters params (db tree))) seen × (rows ≡ page query params seen)
    answer_any = (
      map (λ (o : Output). o.1) a.ordered,
      subst₂ IsPermutation (ap (map (λ (o : Output). o.1)) kept ∙ map-map (λ (o : Output). o.1) (output_of query params) _) refl
          (IsPermutation-map (λ (o : Output). o.1) _ _ a.same),
      a.shown,
    )

-- ---- over a table of items

module _ {X : Type 0} (key : X → ℤ) (columns : X → Row) (filters : List Term) (params : Row) (p : X → Bool)
    (tests : (x : X) → list_all (holds (params ∷ row_of key columns x ∷ [])) filters ≡ p x) where
  -- the rows that WHERE finds are those of the items that pass
  pub passing_items : (xs : List X) (rows : List Row) → rows ≡ map (row_of key columns) xs → passing filters params rows ≡ map (row_of key columns) (filter p xs)
  passing_items xs rows here =
      ap (passing filters params) here ∙ filter-map (λ r. list_all (holds (params ∷ r ∷ [])) filters) (row_of key columns) xs
      ∙ ap (map (row_of key columns)) (filter_same _ _ tests xs)

  module _ (limit : Term) (tree : ℕ) (project : List Term) (order : List (Term × Key)) (xs : List X) (db : Trees) (here : db tree ≡ map (row_of key columns) xs)
      (seen : overlay db [] tree ≡ db tree) (rows : List Row) (a : IsAnswer (over_table limit tree filters project order) (overlay db []) params rows) where
    abbrev q : Query
    q = over_table limit tree filters project order

    -- what is shown of the items that pass, where what they are ordered by and shown as is known of another list
    pub items_by : {Y : Type 0} (outputs : Y → Output) (ys : List Y) → IsPermutation (map outputs ys) (map (λ x. output_of q params (row_of key columns x)) (filter p xs))
        → IsAscending (λ a b. IsBefore q (outputs a) (outputs b)) ys → rows ≡ page q params (map (λ y. (outputs y).1) ys)
    items_by outputs ys same up =
        let mine : map (output_of q params) (passing filters params (db tree)) ≡ map (λ x. output_of q params (row_of key columns x)) (filter p xs) =
        ap (map (output_of q params)) (passing_items xs (db tree) here) ∙ map-map (output_of q params) (row_of key columns) (filter p xs) in
        answer_by limit tree filters project order db params rows seen a (map outputs ys) (subst (IsPermutation (map outputs ys)) (sym mine) same) (ascending-map (IsBefore q) outputs ys up)
        ∙ ap (page q params) (map-map (λ (o : Output). o.1) outputs ys)

    -- the items that pass, where the table has them in the order of ORDER BY
    pub items_in_order : IsAscending (λ a b. IsBefore q (output_of q params (row_of key columns a)) (output_of q params (row_of key columns b))) (filter p xs)
        → rows ≡ page q params (map (λ x. eval_all project (params ∷ row_of key columns x ∷ [])) (filter p xs))
    items_in_order up = items_by (λ x. output_of q params (row_of key columns x)) (filter p xs) (IsPermutation-refl _) up

-- ---- from what a connection shows

-- the answer of a query whose text is known
pub shown_answer : (schema : Schema) (sql : List ℕ) {q : Query} → IsQueryText schema sql q
    → (params : Row) (old new : State) (rows : List Row) → old.now.schema ≡ schema → Shown sql params old new rows → IsAnswer q (overlay old.now.trees []) params rows
shown_answer schema sql text params old new rows has h =
    (reads_as sql params old new schema has _ text.is text.plain text.unlisted rows h).answer Null
