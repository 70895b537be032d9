-- How a hall of the first schema is carried over to the second.
use Rattle.std.specs.Prelude.{◌≡◌, ◌⊎◌, ℕ, Some, option_map, if◌then◌else◌}
use Rattle.hall_laws.specs.Prelude.{Hall, first, second, Full, Machine}
use Rattle.hall_types.specs.Rows.{at}
use Rattle.life_cycle.specs.Entering.{keeps_erase}

-- in Disk erasing and Failed disk erasing all disks are erased in full, the one kind that the first schema knows
abbrev pub with_kind : Machine → Machine
with_kind m = record m { erase = if keeps_erase m.status then Some Full else m.erase }

-- the hall is carried over: each machine keeps its kind of erasing, and nothing else changes
pub record IsMigrated (h next : Hall) : Type 0 where
  pub was : h.schema ≡ first
  pub machines : (id : ℕ) → at next.machines id ≡ option_map with_kind (at h.machines id)
  pub others : next ≡ record h { schema = second; machines = next.machines }

-- between two steps the hall stays, or is migrated
abbrev pub Continues : Hall → Hall → Type 0
Continues h next = (next ≡ h) ⊎ IsMigrated h next
