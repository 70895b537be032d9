-- The counts of machines, after one is put or goes.
use Rattle.sql_schema.specs.Words.{bytes_eq, Decides-and, Decides-eqb, Decides-like, same_from_decides, bytes_eq-Decides, Rows, numbers, at, put, gone, one_if, how_many, at-gone-same, how_many-put, how_many-gone, how_many-new, status_number, Machine, Counts, is_in}
use Rattle.std.proofs.Common.{◌≡◌, ◌&&◌, ◌==◌, ◌+◌, ◌-◌, ℕ, Bool, true, false, if◌then◌else◌, List, Some, None, refl, sym, ap, ap₂, subst, ◌∙◌, arith, Decides}
use Rattle.sql_items.specs.{Counts.counting, WipeLaws.put-gone}
use Rattle.hall_sql.specs.{Machines.group_of, declared.groups.Group.Group}

-- the counts are those of these machines
abbrev pub AreCounted : Counts → Rows numbers Machine → Type 0
AreCounted all machines = (pool : List ℕ) (status : ℕ) → all pool status ≡ how_many (is_in pool status) machines

-- a machine is in a pool and a status if these are its own
is_in-Decides : (m : Machine) (p : List ℕ) (s : ℕ) → Decides (is_in p s m) ((p ≡ m.pool) × (s ≡ status_number m.status))
is_in-Decides m p s = Decides-like _ (λ is. (sym is.0, sym is.1)) (λ is. (sym is.0, sym is.1)) (Decides-and _ _ (bytes_eq-Decides m.pool p) (Decides-eqb (status_number m.status) s))

module _ (all : Counts) (machines : Rows numbers Machine) (agree : AreCounted all machines) where
  -- where the count of a machine's group is another one, each pool and status that the machine is in has that count
  recounted : (m : Machine) (f : ℕ → ℕ) (p : List ℕ) (s : ℕ)
      → counting all m.pool (status_number m.status) (f (all m.pool (status_number m.status))) p s ≡ (if is_in p s m then f (how_many (is_in p s) machines) else how_many (is_in p s) machines)
  recounted m f p s =
      ap (λ b. if b then f (all m.pool (status_number m.status)) else all p s)
      (same_from_decides _ _ (Decides-and _ _ (bytes_eq-Decides p m.pool) (Decides-eqb s (status_number m.status))) (is_in-Decides m p s))
      ∙ by (is_in p s m) (is_in-Decides m p s).0
    where
      by : (b : Bool) → (b ≡ true → (p ≡ m.pool) × (s ≡ status_number m.status))
          → (if b then f (all m.pool (status_number m.status)) else all p s) ≡ (if b then f (how_many (is_in p s) machines) else how_many (is_in p s) machines)
      by true own = let same = own refl in ap f (ap₂ all (sym same.0) (sym same.1) ∙ agree p s)
      by false own = agree p s

  -- a machine that was not among them
  pub counted_new : (m : Machine) → at machines m.id ≡ None → AreCounted (counting all m.pool (status_number m.status) (all m.pool (status_number m.status) + 1)) (put m.id m machines)
  counted_new m new p s = recounted m (λ n. n + 1) p s ∙ by (is_in p s m) _ _ (how_many-new (is_in p s) machines m.id m new)
    where
      by : (b : Bool) (were are : ℕ) → are ≡ were + one_if b → (if b then were + 1 else were) ≡ are
      by true were are is = sym is
      by false were are is = omega arith

  -- a machine that was among them
  pub counted_gone : (group : Group) (id : ℕ) (m : Machine) → at machines id ≡ Some m → group ≡ group_of m
      → AreCounted (counting all group.pool (status_number group.status) (all group.pool (status_number group.status) - 1)) (gone id machines)
  counted_gone group id m there is p s = rw is (recounted m (λ n. n - 1) p s ∙ by (is_in p s m) _ _ (rw there at (how_many-gone (is_in p s) machines id)))
    where
      by : (b : Bool) (were are : ℕ) → are + one_if b ≡ were → (if b then were - 1 else were) ≡ are
      by true were are is = omega arith
      by false were are is = omega arith

  -- a machine that is not among them goes
  pub counted_none : (id : ℕ) → at machines id ≡ None → AreCounted all (gone id machines)
  counted_none id none p s = let left = rw none at (how_many-gone (is_in p s) machines id) in let were = agree p s in omega arith

  -- a machine is put that was counted in the same group
  pub counted_same : (m was : Machine) → at machines m.id ≡ Some was → group_of was ≡ group_of m → AreCounted all (put m.id m machines)
  counted_same m was there same p s =
      let counted = rw there at (how_many-put (is_in p s) machines m.id m) in
      let own = ap (λ (g : Group). one_if (bytes_eq g.pool p && (status_number g.status == s))) same in
      let were = agree p s in
      omega arith

-- a machine is put that was counted in a group, and is counted in its own
pub counted_moved : (all : Counts) (machines : Rows numbers Machine) (agree : AreCounted all machines) (group : Group) (m was : Machine) → at machines m.id ≡ Some was → group ≡ group_of was
    → (out : Counts) → out ≡ counting all group.pool (status_number group.status) (all group.pool (status_number group.status) - 1)
    → AreCounted (counting out m.pool (status_number m.status) (out m.pool (status_number m.status) + 1)) (put m.id m machines)
counted_moved all machines agree group m was there is out out_is =
    subst (AreCounted _) (put-gone machines m.id m)
    (counted_new out (gone m.id machines) (rw out_is (counted_gone all machines agree group m.id was there is)) m (at-gone-same machines m.id))
