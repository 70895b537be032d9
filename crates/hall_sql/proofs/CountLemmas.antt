-- The counts of all pools and statuses make up the number of machines.
use Rattle.sql_schema.specs.Words.{nat_cmp_total, tied_itself, nat_list_cmp_total, AllByRecursion, sum_by, bytes_eq, cond_both, not-true, Decides-and, Decides-eqb, Decides-like, sum_by-cons, bytes_eq-Decides, how_many-split, none_pass, Hall, at-rows_where, how_many-gone, same_rows, where_found, Rows, numbers, at, how_many, passes, rows_where, size, status_number, Machine, Status, same_kind, status_by_number}
use Rattle.std.{proofs.Common.{◌≡◌, ◌==◌, ◌&&◌, ℕ, List, [], ◌∷◌, Option, Some, None, Bool, true, false, Decides, not, if◌then◌else◌, Less, refl, sym, ap, arith, ◌∙◌}, specs.List.Sorted.IsStrictlySortedBy}
use Rattle.hall_store.specs.{Counts.{AreCounts, count_cmp, counted, is_about, is_in}, declared.count.Count.Count}

-- a machine or an entry is about a pool and a status if these are its own
own-Decides : (own pool : List ℕ) (its status : Status) → Decides (bytes_eq own pool && (status_number its == status_number status)) ((own ≡ pool) × (its ≡ status))
own-Decides own pool its status =
    Decides-like _ (λ is. (is.0, same_kind status_by_number its status is.1)) (λ is. (is.0, ap status_number is.1)) (Decides-and _ _ (bytes_eq-Decides own pool) (Decides-eqb (status_number its) (status_number status)))

-- an entry that comes later is about another pool or status
none_about : (c : Count) (cs : List Count) → AllByRecursion (λ d. count_cmp c d ≡ Less) cs → counted c.pool c.status cs ≡ 0
none_about c [] later = refl
none_about c (d ∷ cs) later = cond_both (is_about c.pool c.status d) d.machines (counted c.pool c.status cs) (λ n. n ≡ 0) (λ about. absurd (apart about)) (λ _. none_about c cs later.1)
  where
    apart : is_about c.pool c.status d ≡ true → ⊥
    apart about =
        let same = (own-Decides d.pool c.pool d.status c.status).0 about in
        let before = rw (same.0, same.1, tied_itself nat_list_cmp_total c.pool, tied_itself nat_cmp_total (status_number c.status)) at later.0 in
        cc

-- each row passes a test that all pass
all_pass : (rows : Rows numbers Machine) → rows_where (λ m. true) rows ≡ rows
all_pass rows = same_rows (rows_where (λ m. true) rows) rows (λ key. at-rows_where (λ m. true) rows key ∙ by (at rows key))
  where
    by : (o : Option Machine) → (if passes (λ m. true) o then o else None) ≡ o
    by None = refl
    by (Some m) = refl

-- the list says how many of these machines each pool has in each status
abbrev Counts : List Count → Rows numbers Machine → Type 0
Counts cs rows = (pool : List ℕ) (status : Status) → counted pool status cs ≡ how_many (is_in pool status) rows

-- where the list has no entry there is no machine
none_there : (rows : Rows numbers Machine) → Counts [] rows → how_many (λ m. true) rows ≡ 0
none_there rows exact = none_pass (λ m. true) rows (λ key m there. absurd (one_counted key m there))
  where
    one_counted : (key : ℕ) (m : Machine) → at rows key ≡ Some m → ⊥
    one_counted key m there =
        let counted = rw (there, (own-Decides m.pool m.pool m.status m.status).1 (refl, refl)) at (how_many-gone (is_in m.pool m.status) rows key) in
        let none = exact m.pool m.status in
        omega arith

-- the machines that the first entry isn't about are counted by the others
others_counted : (c : Count) (cs : List Count) (rows : Rows numbers Machine) → AllByRecursion (λ d. count_cmp c d ≡ Less) cs → Counts (c ∷ cs) rows → Counts cs (rows_where (λ m. not (is_in c.pool c.status m)) rows)
others_counted c cs rows later exact pool status = by (is_about pool status c) refl
  where
    none_left : how_many (is_in c.pool c.status) (rows_where (λ m. not (is_in c.pool c.status m)) rows) ≡ 0
    none_left = none_pass (is_in c.pool c.status) _ (λ key m there. not-true (is_in c.pool c.status m) (where_found (λ m. not (is_in c.pool c.status m)) rows key m there).1)

    none_of_them : is_about pool status c ≡ false → how_many (is_in pool status) (rows_where (is_in c.pool c.status) rows) ≡ 0
    none_of_them apart = none_pass (is_in pool status) _ (λ key m there.
        let same = (own-Decides m.pool c.pool m.status c.status).0 (where_found (is_in c.pool c.status) rows key m there).1 in
        rw (same.0, same.1) apart)

    by : (b : Bool) → is_about pool status c ≡ b → counted pool status cs ≡ how_many (is_in pool status) (rows_where (λ m. not (is_in c.pool c.status m)) rows)
    by true about = let same = (own-Decides c.pool pool c.status status).0 about in rw (← same.0, ← same.1) (none_about c cs later ∙ sym none_left)
    by false apart =
        let all = rw apart at (exact pool status) in
        let split = how_many-split (is_in pool status) (is_in c.pool c.status) rows in
        let none = none_of_them apart in
        omega arith

-- the counts of a list in order make up the number of rows
total : (cs : List Count) → IsStrictlySortedBy count_cmp cs → (rows : Rows numbers Machine) → Counts cs rows → sum_by (λ c. c.machines) cs ≡ how_many (λ m. true) rows
unfolding IsStrictlySortedBy
total [] sorted rows exact = sym (none_there rows exact)
total (c ∷ cs) sorted rows exact =
    let sum = sum_by-cons (λ (d : Count). d.machines) c cs in
    let first = rw ((own-Decides c.pool c.pool c.status c.status).1 (refl, refl)) at (exact c.pool c.status) in
    let others = total cs sorted.1 (rows_where (λ m. not (is_in c.pool c.status m)) rows) (others_counted c cs rows sorted.0 exact) in
    let split = how_many-split (λ m. true) (is_in c.pool c.status) rows in
    let own = ap (λ (r : Rows numbers Machine). size r) (all_pass (rows_where (is_in c.pool c.status) rows)) in
    omega arith

pub counts_total : (h : Hall) (cs : List Count) → AreCounts h cs → sum_by (λ c. c.machines) cs ≡ size h.machines
counts_total h cs are = total cs are.ascending h.machines are.exact ∙ ap (λ (r : Rows numbers Machine). size r) (all_pass h.machines)
