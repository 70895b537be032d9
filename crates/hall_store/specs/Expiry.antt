-- The moment before which no machine expires.
use Rattle.std.specs.Prelude.{◌≡◌, ◌≤◌, ℕ, Some}
use Rattle.hall_types.specs.{Rows.{Rows, numbers, at}, declared.machine.Machine.Machine}

-- the machine has no earlier deadline
abbrev pub HasNoEarlier : ℕ → Machine → Type 0
HasNoEarlier earliest m = (deadline : ℕ) → m.deadline ≡ Some deadline → earliest ≤ deadline

-- no machine has an earlier deadline
abbrev pub IsEarliest : ℕ → Rows numbers Machine → Type 0
IsEarliest earliest machines = (id : ℕ) (m : Machine) → at machines id ≡ Some m → HasNoEarlier earliest m
