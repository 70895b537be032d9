-- How many machines each pool has in each status, as they are counted.
use Rattle.std.specs.{Prelude.{◌≡◌, ◌≤◌, ◌+◌, ℕ, List, Option, Some, None, filter, length}, BTreeMap.{BTreeMap, get}, Ordering.{nat_cmp, ordering_then}, declared.cmp.Ordering.Ordering}
use Rattle.store_memory.specs.{Prelude.{status_number, Machine, Status, is_in, Count}, Held.text_cmp}

-- by the pool's octets, then by the status's number
abbrev pub key_cmp : List ℕ × ℕ → List ℕ × ℕ → Ordering
key_cmp one other = ordering_then (text_cmp one.0 other.0) (nat_cmp one.1 other.1)

abbrev pub machines_in : Option Count → ℕ
machines_in None = 0
machines_in (Some count) = count.machines

-- how many machines of a pool in a status were counted
abbrev pub counted_in : BTreeMap (List ℕ × ℕ) Count → List ℕ → Status → ℕ
counted_in counts pool status = machines_in (get key_cmp counts (pool, status_number status))

-- each entry stands under its pool and its status, and there is none of no machine
abbrev pub AreEntries : BTreeMap (List ℕ × ℕ) Count → Type 0
AreEntries counts = (key : List ℕ × ℕ) (count : Count) → get key_cmp counts key ≡ Some count → (count.pool ≡ key.0) × (status_number count.status ≡ key.1) × (1 ≤ count.machines)

-- how many machines of a list there are of a pool in a status
abbrev pub many : List ℕ → Status → List Machine → ℕ
many pool status machines = length (filter (is_in pool status) machines)

-- with these machines counted too
abbrev pub CountsMore : BTreeMap (List ℕ × ℕ) Count → BTreeMap (List ℕ × ℕ) Count → List Machine → Type 0
CountsMore old new machines = (pool : List ℕ) (status : Status) → counted_in new pool status ≡ counted_in old pool status + many pool status machines
