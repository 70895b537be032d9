-- One line of the table leads from a status at a signal, at most.
use Rattle.std.{proofs.{Common.{◌≡◌, ◌≤◌, ◌&&◌, Bool, true, false, length, refl}, lemmas.Bool.{and_parts, leb-true}}, specs.{Prelude.nat_le, List.{list_all, filter}}}
use Rattle.hall_types.specs.{Status.{status_number, statuses}, declared.status.Status.Status}
use Rattle.life_cycle.specs.{declared.signal.Signal.Signal, Table.{transitions, leads}, TableLaws.{signals, each_status, each_signal}}

abbrev is_one : Status → Signal → Bool
is_one status signal =
    nat_le (length (filter (leads status true signal) transitions)) 1 && nat_le (length (filter (leads status false signal) transitions)) 1

abbrev are_one : Status → Bool
are_one status = list_all (is_one status) signals

all_one : list_all are_one statuses ≡ true
unfolding status_number
all_one = refl

pub one_transition : (status : Status) (tests : Bool) (signal : Signal) → length (filter (leads status tests signal) transitions) ≤ 1
one_transition status tests signal = by tests
  where
    both : is_one status signal ≡ true
    both = each_signal (is_one status) (each_status are_one all_one status) signal

    by : (b : Bool) → length (filter (leads status b signal) transitions) ≤ 1
    by true = leb-true _ 1 (and_parts (nat_le (length (filter (leads status true signal) transitions)) 1) _ both).0
    by false = leb-true _ 1 (and_parts (nat_le (length (filter (leads status true signal) transitions)) 1) _ both).1
