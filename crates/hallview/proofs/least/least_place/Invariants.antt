use Rattle.std.proofs.Common.{◌<◌, ◌≤◌, ℕ, length, slice_index}
use Rattle.hallview.proofs.least.least_place.Given as goal

-- of the numbers that were passed, none is less than the one at the place that was found
abbrev pub invariant-loop-place : goal.invariant-loop-place
invariant-loop-place l = record {
  within : l.least < length l.numbers;
  least : (k : ℕ) → k < l.place → slice_index l.numbers l.least ≤ slice_index l.numbers k;
}
