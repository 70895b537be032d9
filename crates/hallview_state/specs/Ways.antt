-- How many moves were seen on each way from one status to another.
use Rattle.std.specs.Prelude.{ℕ, List, ◌+◌, ◌-◌, ◌*◌, ◌^◌, ◌==◌, min, Option, None, Some, slice_get, slice_set, unwrap_or}
use Rattle.std.specs.List.{count_by}
use Rattle.hall_types.specs.{Status.status_number, declared.status.Status.{Status}}
use Rattle.hallview_state.specs.declared.{moves.Move.{Move}, ways.Ways.{Ways}}

-- the number of a way
abbrev pub way_number : Status → Status → ℕ
way_number from to = status_number from * 20 + status_number to

abbrev pub way_of : Move → ℕ
way_of move = way_number move.from move.to

-- how many of these moves are on a way
abbrev pub moves_on : ℕ → List Move → ℕ
moves_on way moves = count_by (λ move. way_of move == way) moves

-- how many moves were seen on a way
abbrev pub count_on : Ways → ℕ → ℕ
count_on ways way = unwrap_or (slice_get ways.counts way) 0

-- with one move more on a way that has this count
abbrev pub counted_on : Ways → ℕ → Option ℕ → Ways
counted_on ways way None = ways
counted_on ways way (Some count) = record ways { counts = slice_set ways.counts way (min (count + 1) (2 ^ 64 - 1)) }

-- with one move more
abbrev pub counted : Ways → Move → Ways
counted ways move = counted_on ways (way_of move) (slice_get ways.counts (way_of move))
