-- A machine's move from one status to another.
use Rattle.std.specs.{Prelude.{ℕ, ◌==◌, Bool, false, List, [], ◌∷◌, Option, None, Some, if◌then◌else◌}, Option.option_or}
use Rattle.hall_desk.specs.{Prelude.{status_number, RowWrite, PutMachine, MachineGone, Machine, Status}, declared.moved.{Moved.Moved, Seen.Seen}}

-- the status that a machine was seen with, none where another machine was seen
abbrev pub status_seen : Option Seen → ℕ → Option Status
status_seen None machine = None
status_seen (Some seen) machine = if seen.machine == machine then Some seen.status else None

abbrev pub is_status : Option Status → Status → Bool
is_status None status = false
is_status (Some from) status = status_number from == status_number status

-- a machine that keeps the status that it was seen with doesn't move
abbrev pub moved_by_put : Option Seen → Machine → Option Moved
moved_by_put seen m =
    if is_status (status_seen seen m.id) m.status then None
    else Some (record { machine = m.id; from = status_seen seen m.id; to = Some m.status })

-- a machine that goes has no status afterwards; other rows move none
abbrev pub moved_by_row : Option Seen → RowWrite → Option Moved
moved_by_row seen (PutMachine m was) = moved_by_put seen m
moved_by_row seen (MachineGone id) = Some (record { machine = id; from = status_seen seen id; to = None })
moved_by_row seen other = None

-- the first move of the rows
abbrev pub moved_by : Option Seen → List RowWrite → Option Moved
moved_by seen [] = None
moved_by seen (row ∷ rows) = option_or (moved_by_row seen row) (moved_by seen rows)
