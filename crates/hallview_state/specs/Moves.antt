-- Moves of machines from one status to another, read off two lists.
use Rattle.std.specs.{Prelude.{◌≡◌, ◌≢◌, ◌==◌, ℕ, List, Option, None, Some, cond, find, option_map}, List.{Contains}}
use Rattle.hall_types.specs.{Status.status_number, declared.status.Status.{Status}}
use Rattle.hallview_state.specs.declared.{listed.Listed.{Listed}, moves.Move.{Move}}

-- a list has a machine with this number, in this status
abbrev pub Has : List Listed → ℕ → Status → Type 0
Has machines id status = (one : Listed) × Contains machines one × (one.machine.id ≡ id) × (one.machine.status ≡ status)

-- a machine was in the first status in the list before, and is in the second one in the list after it, which is another
pub record IsMove (before after : List Listed) (moment : ℕ) (move : Move) : Type 0 where
  pub at : move.at ≡ moment
  pub was : Has before move.machine move.from
  pub is : Has after move.machine move.to
  pub moved : move.from ≢ move.to

-- ---- all of them

-- the machine with a number in a list
abbrev pub with_id : List Listed → ℕ → Option Listed
with_id machines id = find (λ one. one.machine.id == id) machines

-- the move of a machine that was in this status, unless it is in it still
abbrev pub moved_from : ℕ → Listed → Option Status → Option Move
moved_from moment one None = None
moved_from moment one (Some from) =
    cond (status_number from == status_number one.machine.status) None
    (Some (record { at = moment; machine = one.machine.id; from = from; to = one.machine.status }))

-- the move of a machine since the list before, if it was in that list
abbrev pub move_of : List Listed → ℕ → Listed → Option Move
move_of before moment one = moved_from moment one (option_map (λ was. was.machine.status) (with_id before one.machine.id))
