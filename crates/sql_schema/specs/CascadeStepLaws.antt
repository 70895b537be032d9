-- Laws of what a write sets off, for the proofs of callers: a write that meets no child is its one step.
use Rattle.sql_schema.specs.{Prelude.{list_any, list_any-IsPermutation, AllByRecursion, filter_map, cons_option, Decides-eqb, Null, Int, Binary, Row, column, binary, is_true, Table, Schema, Trees, has_rowid, Edit, row_at, taken_by, Applies, Compare, Eq, plain, value_cmp-Int, agree, ParentKey, parent_key, Enforced, Reference, NoAction, Has, Work, works, work_for, work_by, deed_for, deed_of, loses, Leads, Writes, ActsOn, AreChildren, is_child_of, Deed, all_map, any_from_none, none_from_any, same_int, all_of, all_weaker}, Cascades.{IsIdle, cascade, NeverFollows}, Rows.row_of, StatementLaws.same_value, ListLaws.{all_passed, has_map, has_none}, ValueLaws.{same_number, number_null}}
use Rattle.std.proofs.Common.{◌≡◌, ◌⊎◌, ◌&&◌, ◌==◌, not, inl, inr, ℕ, zero, suc, ℤ, List, [], ◌∷◌, ◌++◌, length, map, filter, Bool, true, false, cond, Option, Some, None, IfSome, Ok, refl, sym, ap, subst, ◌∙◌, int_eq, is_eq, IsPermutation, true≢false, flat_map, arith}
use Rattle.std.proofs.lemmas.Bool.{and_right, not-false}
use Rattle.sqlite_value.specs.{declared.keys.Order.Order, Keys.first_key}
use Rattle.sqlite_schema.specs.declared.schema.Keys.{Keys}
use Rattle.sqlite_rules.specs.{Action.pairs, declared.action.Deed.TheVariants.Delete}

all_front : {X : Type 0} (P : X → Type 0) (xs : List X) (x : X) → AllByRecursion P (xs ++ x ∷ []) → AllByRecursion P xs × P x
all_front P [] x h = (tt, h.0)
all_front P (y ∷ xs) x h = let rest = all_front P xs x h.1 in ((h.0, rest.0), rest.1)

module _ (schema : Schema) (keys : Keys) where
  acts : (n : ℕ) (db next : Trees) (w : Work) (below : List Work) (ids : List ℤ) → IsIdle db w → AreChildren db w ids
      → (Leads schema keys n db below (Ok next) → next ≡ db) → ActsOn schema keys (Leads schema keys n) db w below (Ok next) ids → next ≡ db
  acts n db next w below [] idle kids more h = more h
  acts n db next w below (id ∷ ids) idle kids more h = let kid = kids.sound id (inl refl) in absurd (true≢false (sym kid.2 ∙ idle.none kid.0 kid.1))

  alone : (n : ℕ) (db next : Trees) (stack : List Work) → AllByRecursion (IsIdle db) stack → Leads schema keys n db stack (Ok next) → next ≡ db
  alone zero db next stack idle h = same_value h.1
  alone (suc n) db next stack idle h =
      let both = all_front (IsIdle db) h.0 h.1 (subst (AllByRecursion (IsIdle db)) h.2 idle) in
      let it = rw (both.1).low at h.3 in
      acts n db next h.1 h.0 it.0 both.1 it.1 (alone n db next h.0 both.0) it.2

  -- where the rows that go have no child, a write is its one step
  pub step_alone : (db next : Trees) (edit : Edit) → ((mid : Trees) → Applies schema keys db edit mid → AllByRecursion (IsIdle mid) (works schema keys 0 edit.table.tree (taken_by db edit) edit.news))
      → Writes schema keys db edit (Ok next) → Applies schema keys db edit next
  step_alone db next edit idle (inl refused) = absurd (let e = refused.2 in cc)
  step_alone db next edit idle (inr (inl big)) = absurd (let e = big.3 in cc)
  step_alone db next edit idle (inr (inr went)) = subst (Applies schema keys db edit) (sym (alone went.2.0 went.0 next _ (idle went.0 went.1) went.2.1)) went.1

-- ---- what sets off nothing

no_work : {A B : Type 0} (f : A → Option B) (xs : List A) → AllByRecursion (λ x. f x ≡ None) xs → filter_map f xs ≡ []
no_work f [] h = refl
no_work f (x ∷ xs) h = ap (λ o. cons_option o (filter_map f xs)) h.0 ∙ no_work f xs h.1

no_works : {A B : Type 0} (f : A → List B) (xs : List A) → AllByRecursion (λ x. f x ≡ []) xs → flat_map f xs ≡ []
no_works f [] h = refl
no_works f (x ∷ xs) h = ap (λ l. l ++ flat_map f xs) h.0 ∙ no_works f xs h.1

never : (b : Bool) (w : Work) → cond (b && false) (Some w) None ≡ None
never true w = refl
never false w = refl

no_move : (depth tree : ℕ) (child : Table) (ref : Reference) (deed : Option Deed) (key : Option ParentKey) → work_by depth tree [] child ref deed key ≡ None
no_move depth tree child ref None key = refl
no_move depth tree child ref (Some deed) None = refl
no_move depth tree child ref (Some deed) (Some key) = never (key.0 == tree) (record { depth = depth; child = child; ref = ref; places = key.1; order = key.2; deed = deed; moves = [] })

-- an INSERT sets off nothing
pub insert_is_quiet : (schema : Schema) (keys : Keys) (depth tree : ℕ) (news : List Row) → works schema keys depth tree [] news ≡ []
insert_is_quiet schema keys depth tree news =
    no_works (λ child. filter_map (work_for schema keys depth tree [] news child) child.references) schema.tables
    (all_of _ (λ child. no_work (work_for schema keys depth tree [] news child) child.references
    (all_of _ (λ ref. no_move depth tree child ref (deed_for keys (length news == 0) ref) (parent_key schema.tables ref)) child.references)) schema.tables)

some_length : (n : Row) (news : List Row) → (length (n ∷ news) == 0) ≡ false
some_length n news = go (length (n ∷ news) == 0) refl
  where
    go : (b : Bool) → (length (n ∷ news) == 0) ≡ b → b ≡ false
    go true e = absurd (let z = (Decides-eqb _ _).0 e in omega (arith, z))
    go false e = refl

-- an UPDATE sets off nothing where no table follows a key
pub update_is_quiet : (schema : Schema) → NeverFollows schema → (depth tree : ℕ) (olds news : List Row) → length olds ≡ length news → works schema Enforced depth tree olds news ≡ []
update_is_quiet schema stays depth tree [] news same = insert_is_quiet schema Enforced depth tree news
update_is_quiet schema stays depth tree (old ∷ olds) [] same = absurd (omega (arith, same))
update_is_quiet schema stays depth tree (old ∷ olds) (n ∷ news) same =
    no_works (λ child. filter_map (work_for schema Enforced depth tree (old ∷ olds) (n ∷ news) child) child.references) schema.tables
    (all_weaker _ _ (λ child h. no_work (work_for schema Enforced depth tree (old ∷ olds) (n ∷ news) child) child.references (all_weaker _ _ (λ ref e. none child ref e) child.references h)) schema.tables stays)
  where
    none : (child : Table) (ref : Reference) → ref.on_update ≡ NoAction → work_for schema Enforced depth tree (old ∷ olds) (n ∷ news) child ref ≡ None
    none child ref e =
        ap (λ b. work_by depth tree (pairs (old ∷ olds) (n ∷ news)) child ref (deed_for Enforced b ref) (parent_key schema.tables ref)) (some_length n news)
        ∙ ap (λ a. work_by depth tree (pairs (old ∷ olds) (n ∷ news)) child ref (deed_of Enforced false a) (parent_key schema.tables ref)) e

-- ---- a table of children in which no row points to the rows that go

if_work : (P : Work → Type 0) (b : Bool) (w : Work) → P w → IfSome (cond b (Some w) None) P
if_work P true w h = h
if_work P false w h = tt

all-filter_map : {A B : Type 0} (P : B → Type 0) (f : A → Option B) (xs : List A) → AllByRecursion (λ x. IfSome (f x) P) xs → AllByRecursion P (filter_map f xs)
all-filter_map P f [] h = tt
all-filter_map P f (x ∷ xs) h = go (f x) h.0 (all-filter_map P f xs h.1)
  where
    go : (o : Option _) → IfSome o P → AllByRecursion P (filter_map f xs) → AllByRecursion P (cons_option o (filter_map f xs))
    go None h more = more
    go (Some y) h more = (h, more)

-- what a table of children with one REFERENCES .. ON DELETE CASCADE is to do, whatever the schema is
pub child_is_idle : (schema : Schema) (tree : ℕ) (places : List ℕ) (order : Order) (ref : Reference) → parent_key schema.tables ref ≡ Some (tree, places, order) → deed_for Enforced true ref ≡ Some Delete
    → (db : Trees) (olds : List Row) (child : Table) → IsIdle db (cascade child ref places order olds)
    → AllByRecursion (IsIdle db) (filter_map (work_for schema Enforced 0 tree olds [] child) (ref ∷ []))
child_is_idle schema tree places order ref key deed db olds child h =
    all-filter_map (IsIdle db) (work_for schema Enforced 0 tree olds [] child) (ref ∷ []) (here, tt)
  where
    here : IfSome (work_for schema Enforced 0 tree olds [] child ref) (IsIdle db)
    here = subst (λ (d : Option Deed). IfSome (work_by 0 tree (pairs olds []) child ref d (parent_key schema.tables ref)) (IsIdle db)) (sym deed)
        (subst (λ (k : Option ParentKey). IfSome (work_by 0 tree (pairs olds []) child ref (Some Delete) k) (IsIdle db)) (sym key)
        (if_work (IsIdle db) ((tree == tree) && list_any (loses order places) (pairs olds [])) (cascade child ref places order olds) h))

no_child : (child : Table) (ref : Reference) (olds : List Row) (r : Row) → AllByRecursion (λ old. agree plain ref.columns r (0 ∷ []) old ≡ false) olds
    → list_any (is_child_of (cascade child ref (0 ∷ []) plain olds) r) (pairs olds []) ≡ false
no_child child ref olds r = go olds
  where
    go : (left : List Row) → AllByRecursion (λ old. agree plain ref.columns r (0 ∷ []) old ≡ false) left → list_any (is_child_of (cascade child ref (0 ∷ []) plain olds) r) (pairs left []) ≡ false
    go [] h = refl
    go (old ∷ left) h = rw (and_right (loses plain (0 ∷ []) (old, [])) _ h.0) (go left h.1)

agrees : (c : ℕ) (r old : Row) → agree plain (c ∷ []) r (0 ∷ []) old ≡ (is_true (binary (Compare Eq Binary) (column r c) (column old 0)) && true)
unfolding first_key
agrees c r old = refl

module _ {X : Type 0} (key : X → ℤ) (columns : X → Row) where
  -- the row with a rowid is that of an item, or none
  row_found : (xs : List X) (id : ℤ) → (row_at (map (row_of key columns) xs) id ≡ []) ⊎ ((x : X) × (row_at (map (row_of key columns) xs) id ≡ row_of key columns x) × (int_eq (key x) id ≡ true))
  row_found [] id = inl refl
  row_found (x ∷ xs) id = go (int_eq (key x) id) refl (row_found xs id)
    where
      test : has_rowid id (row_of key columns x) ≡ int_eq (key x) id
      test = ap is_eq (value_cmp-Int (key x) id)

      go : (b : Bool) → int_eq (key x) id ≡ b → (row_at (map (row_of key columns) xs) id ≡ []) ⊎ ((y : X) × (row_at (map (row_of key columns) xs) id ≡ row_of key columns y) × (int_eq (key y) id ≡ true))
          → (row_at (map (row_of key columns) (x ∷ xs)) id ≡ []) ⊎ ((y : X) × (row_at (map (row_of key columns) (x ∷ xs)) id ≡ row_of key columns y) × (int_eq (key y) id ≡ true))
      go true e more = inr (x, rw (test ∙ e) refl, e)
      go false e more = rw (test ∙ e) more

  -- a row that points elsewhere doesn't agree with the row that goes
  apart : (xs : List X) (id : ℤ) (c : ℕ) (r : Row) (n : ℤ) → column r c ≡ Int n → int_eq n id ≡ false → agree plain (c ∷ []) r (0 ∷ []) (row_at (map (row_of key columns) xs) id) ≡ false
  apart xs id c r n is other = agrees c r (row_at (map (row_of key columns) xs) id) ∙ go (row_found xs id)
    where
      go : (row_at (map (row_of key columns) xs) id ≡ []) ⊎ ((x : X) × (row_at (map (row_of key columns) xs) id ≡ row_of key columns x) × (int_eq (key x) id ≡ true))
          → (is_true (binary (Compare Eq Binary) (column r c) (column (row_at (map (row_of key columns) xs) id) 0)) && true) ≡ false
      go (inl none) = ap (λ l. is_true (binary (Compare Eq Binary) (column r c) (column l 0)) && true) none ∙ ap (λ v. is_true (binary (Compare Eq Binary) v Null) && true) is ∙ ap (λ b. b && true) (number_null n)
      go (inr some) = ap (λ l. is_true (binary (Compare Eq Binary) (column r c) (column l 0)) && true) some.1 ∙ ap (λ v. is_true (binary (Compare Eq Binary) v (Int (key some.0))) && true) is
          ∙ ap (λ b. b && true) (same_number n (key some.0) ∙ ap (int_eq n) (same_int (key some.0) id some.2) ∙ other)

  -- each row that goes is that of the item
  gone : (id : ℤ) (xs : List X) (ids : List ℤ) → IsPermutation (map key (filter (λ x. int_eq (key x) id) xs)) ids → list_any (λ i. not (int_eq i id)) ids ≡ false
  gone id xs ids same = sym (list_any-IsPermutation (λ i. not (int_eq i id)) _ ids same)
      ∙ any_from_none _ _ (all_map (λ i. not (int_eq i id) ≡ false) key _ (all_passed (λ x. not (int_eq (key x) id) ≡ false) (λ x. int_eq (key x) id) (λ x e. ap not e) xs))

  module _ (tree : ℕ) (db : Trees) (xs : List X) (here : db tree ≡ map (row_of key columns) xs) (id : ℤ) (c : ℕ) (r : Row) (n : ℤ) (is : column r c ≡ Int n) (other : int_eq n id ≡ false) where
    none_agrees : (ids : List ℤ) → AllByRecursion (λ i. not (int_eq i id) ≡ false) ids → AllByRecursion (λ old. agree plain (c ∷ []) r (0 ∷ []) old ≡ false) (map (row_at (db tree)) ids)
    none_agrees [] h = tt
    none_agrees (i ∷ ids) mine =
        let same : i ≡ id = same_int i id (not-false (int_eq i id) mine.0) in (
          subst (λ i. agree plain (c ∷ []) r (0 ∷ []) (row_at (db tree) i) ≡ false) (sym same)
              (subst (λ l. agree plain (c ∷ []) r (0 ∷ []) (row_at l id) ≡ false) (sym here) (apart xs id c r n is other)),
          none_agrees ids mine.1,
        )

  -- no row of the table of children points to the item with this key
  pub no_row_points : {Y : Type 0} (child_row : Y → Row) (c : ℕ) (parent_of : Y → ℤ) → ((y : Y) → column (child_row y) c ≡ Int (parent_of y))
      → (tree : ℕ) (db mid : Trees) (xs : List X) → db tree ≡ map (row_of key columns) xs → (id : ℤ) (ids : List ℤ) → IsPermutation (map key (filter (λ x. int_eq (key x) id) xs)) ids
      → (child : Table) (ref : Reference) → ref.columns ≡ c ∷ [] → (ys : List Y) → mid child.tree ≡ map child_row ys → list_any (λ y. int_eq (parent_of y) id) ys ≡ false
      → IsIdle mid (cascade child ref (0 ∷ []) plain (map (row_at (db tree)) ids))
  no_row_points child_row c parent_of points tree db mid xs here id ids same child ref cell ys children none = record {
    low = refl;
    none = λ r has.
        let it = has_map child_row ys r (subst (λ l. Has l r) children has) in
        let elsewhere : int_eq (parent_of it.0) id ≡ false = has_none (λ y. int_eq (parent_of y) id) ys it.0 none it.1 in
        no_child child ref (map (row_at (db tree)) ids) r
        (subst (λ cs. AllByRecursion (λ old. agree plain cs r (0 ∷ []) old ≡ false) (map (row_at (db tree)) ids)) (sym cell)
        (none_agrees tree db xs here id c r (parent_of it.0) (ap (λ l. column l c) it.2 ∙ points it.0) elsewhere ids (none_from_any _ ids (gone id xs ids same))));
  }
