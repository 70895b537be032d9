-- Which desk's time has come.
use Rattle.std.specs.Prelude.{ℕ, List, ◌<◌, ◌≤◌, length, slice_index}
use Rattle.hallview.specs.Least.{IsLeast}

-- the time of the desk at this place has come, and that of no other one came before
pub record IsDueFirst (dues : List ℕ) (now place : ℕ) : Type 0 where
  pub within : place < length dues
  pub due : slice_index dues place ≤ now
  pub first : IsLeast dues place

-- no desk's time has come
abbrev pub NoneDue : List ℕ → ℕ → Type 0
NoneDue dues now = (k : ℕ) → k < length dues → now < slice_index dues k
