-- What becomes of a hall when its desk has answered, or hasn't.
use Rattle.std.specs.Prelude.{◌≡◌, ◌≢◌, ◌⊎◌, ◌-◌, ℕ, List, [], ◌++◌, Option, Some, None, drop, filter_map, fold, length}
use Rattle.hallview_state.specs.{Lists.IsListOf, Moves.move_of, Ways.counted}
use Rattle.hallview_state.specs.declared.{hall.Hall.{Hall}, list.List.{List as Last}, listed.Listed.{Listed}, moves.Move.{Move}}

-- the machines that are shown
abbrev pub listed_in : Option Last → List Listed
listed_in None = []
listed_in (Some list) = list.machines.items

abbrev pub machines_of : Hall → List Listed
machines_of hall = listed_in hall.list

-- the moves that are kept of these: the newest 65,536
abbrev pub newest : List Move → List Move
newest moves = drop (length moves - 65536) moves

-- it is the same hall
pub record IsSameHall (old new : Hall) : Type 0 where
  pub name : new.name ≡ old.name
  pub desk : new.desk ≡ old.desk
  pub every : new.every ≡ old.every

-- all that is known of a hall stays, but why the last answer was no list
pub record Stays (old new : Hall) : Type 0 where
  pub hall : IsSameHall old new
  pub list : new.list ≡ old.list
  pub moves : new.moves.items ≡ old.moves.items
  pub ways : new.ways ≡ old.ways
  pub orders : new.orders.items ≡ old.orders.items
  pub history : new.history.items ≡ old.history.items

-- the moves between the machines that are shown and those of the next list, which came at a moment
abbrev pub moves_to : Hall → List Listed → ℕ → List Move
moves_to hall machines now = filter_map (move_of (machines_of hall) now) machines

-- the last list has these machines, and came at a moment, after so many milliseconds
abbrev pub IsLast : List Listed → ℕ → ℕ → Option Last → Type 0
IsLast machines now took list = (last : Last) × (list ≡ Some last) × (last.machines.items ≡ machines) × (last.at ≡ now) × (last.took ≡ took)

-- a list came at a moment, after so many milliseconds: it is shown, and the moves to it are added and counted, each once
pub record Follows (old new : Hall) (machines : List Listed) (now took : ℕ) : Type 0 where
  pub hall : IsSameHall old new
  pub list : IsLast machines now took new.list
  pub up : new.loss ≡ None
  pub moves : new.moves.items ≡ newest (old.moves.items ++ moves_to old machines now)
  pub ways : new.ways ≡ fold counted old.ways (moves_to old machines now)

-- the same machines came again at a moment, after so many milliseconds: none has moved
pub record Renews (old new : Hall) (now took : ℕ) : Type 0 where
  pub hall : IsSameHall old new
  pub list : IsLast (machines_of old) now took new.list
  pub up : new.loss ≡ None
  pub moves : new.moves ≡ old.moves
  pub ways : new.ways ≡ old.ways
  pub orders : new.orders ≡ old.orders

-- the answer lists machines that the hall follows, or those that it shows; or all that is known of it stays, and it isn't up
abbrev pub IsTaken : Hall → Hall → ℕ → List ℕ → ℕ → ℕ → Type 0
IsTaken old new status body now took =
    ((machines : List Listed) × IsListOf machines status body × Follows old new machines now took)
    ⊎ (IsListOf (machines_of old) status body × Renews old new now took)
    ⊎ (Stays old new × (new.loss ≢ None))
