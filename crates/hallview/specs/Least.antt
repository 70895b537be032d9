-- The least of some numbers.
use Rattle.std.specs.Prelude.{ℕ, List, ◌<◌, ◌≤◌, length, slice_index}

-- no number is less than the one at this place
abbrev pub IsLeast : List ℕ → ℕ → Type 0
IsLeast numbers place = (k : ℕ) → k < length numbers → slice_index numbers place ≤ slice_index numbers k
