-- How many machines each pool has in each status.
use Rattle.std.specs.{Prelude.{◌≡◌, ◌≤◌, ℕ, ◌==◌, ◌&&◌, Bool, List, [], ◌∷◌, if◌then◌else◌}, List.{AllByRecursion, Sorted.IsStrictlySortedBy}, Str.bytes_eq, Cmp.Lexicographic.slice_cmp, Ordering.{nat_cmp, ordering_then}, declared.cmp.Ordering.Ordering}
use Rattle.hall_types.specs.{Hall.Hall, Rows.how_many, Status.status_number, declared.{machine.Machine.Machine, status.Status.Status}}
use Rattle.hall_store.specs.declared.count.Count.{Count}

-- the machine is in this pool and this status
abbrev pub is_in : List ℕ → Status → Machine → Bool
is_in pool status m = bytes_eq m.pool pool && (status_number m.status == status_number status)

-- the entry is about this pool and this status
abbrev pub is_about : List ℕ → Status → Count → Bool
is_about pool status c = bytes_eq c.pool pool && (status_number c.status == status_number status)

-- how many machines a list says there are, 0 if it has no entry
abbrev pub counted : List ℕ → Status → List Count → ℕ
counted pool status [] = 0
counted pool status (c ∷ cs) = if is_about pool status c then c.machines else counted pool status cs

-- by the pool's octets, then by the status's number
abbrev pub count_cmp : Count → Count → Ordering
count_cmp one other = ordering_then (slice_cmp nat_cmp one.pool other.pool) (nat_cmp (status_number one.status) (status_number other.status))

-- the list has how many machines each pool has in each status, in order, and no entry of none
pub record AreCounts (h : Hall) (counts : List Count) : Type 0 where
  pub exact : (pool : List ℕ) (status : Status) → counted pool status counts ≡ how_many (is_in pool status) h.machines
  pub some : AllByRecursion (λ c. 1 ≤ c.machines) counts
  pub ascending : IsStrictlySortedBy count_cmp counts
