-- How many marks of seats are set, by which the next ready one is found at once.
use Rattle.std.specs.Prelude.{◌≡◌, ℕ, zero, suc, ◌+◌, ◌*◌, ◌<◌, ◌≤◌, List, Bool, true, false, Some, length, slice_get, slice_index, slice_index_or}

-- 1 for a mark that is set
abbrev pub one_if : Bool → ℕ
one_if true = 1
one_if false = 0

-- how many of the marks are set, of so many from one on
unfoldable pub count_set : List Bool → ℕ → ℕ → ℕ
count_set marks from zero = 0
count_set marks from (suc count) = count_set marks from count + one_if (slice_index_or marks (from + count) false)

-- how many marks of each block of 64 are set
abbrev pub AreCounts : List Bool → List ℕ → Type 0
AreCounts marks counts = (block : ℕ) → slice_index counts block ≡ count_set marks (64 * block) 64

-- no mark from one on and before another is set
abbrev pub AreClear : List Bool → ℕ → ℕ → Type 0
AreClear marks from to = (k : ℕ) → from ≤ k → k < to → k < length marks → slice_get marks k ≡ Some false

-- the seat is the first one from `from` on that is marked
pub record IsFirst (marks : List Bool) (from seat : ℕ) : Type 0 where
  pub above : from ≤ seat
  pub within : seat < length marks
  pub marked : slice_get marks seat ≡ Some true
  pub clear : AreClear marks from seat
