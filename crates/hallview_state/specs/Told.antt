-- What metrics tell of each hall: whether its desk answers, how long its last list took, and how old that list is.
use Rattle.std.specs.Prelude.{◌≡◌, ◌-◌, ◌/◌, ◌%◌, ℕ, List, ◌++◌, if◌then◌else◌, is_none, nat_lt, option_map, unwrap_or, map, flat_map, codes, decimal}
use Rattle.std.specs.Option.{option_to_list}
use Rattle.hallview_state.specs.declared.{hall.Hall.{Hall}, state.State.{State}}
use Rattle.hallview_state.specs.{Exposition.{Sample, at_line, read, with_value}, Families.of_hall, declared.families.Family.TheVariants.{Up, Took, Age}}

-- milliseconds as seconds with three places
abbrev pub zeros : ℕ → List ℕ
zeros rest = if nat_lt rest 10 then codes "00" else if nat_lt rest 100 then codes "0" else codes ""

abbrev pub seconds_text : ℕ → List ℕ
seconds_text milliseconds = decimal (milliseconds / 1000) ++ codes "." ++ zeros (milliseconds % 1000) ++ decimal (milliseconds % 1000)

-- 1 if the desk's last answer was a list
abbrev pub up_text : Hall → List ℕ
up_text hall = if is_none hall.loss then codes "1" else codes "0"

abbrev pub of_up : Hall → Sample
of_up hall = with_value (of_hall Up hall.name) (up_text hall)

abbrev pub of_took : Hall → List Sample
of_took hall = option_to_list (option_map (λ list. with_value (of_hall Took hall.name) (seconds_text list.took)) hall.list)

-- a desk that never answered has the age of hallview, which began at a moment
abbrev pub age_text : ℕ → ℕ → Hall → List ℕ
age_text began now hall = decimal (now - unwrap_or (option_map (λ list. list.at) hall.list) began)

abbrev pub of_age : ℕ → ℕ → Hall → Sample
of_age began now hall = with_value (of_hall Age hall.name) (age_text began now hall)

-- these octets are metrics, in which a reader finds this of each hall after the counts
abbrev pub AreMetrics : State → ℕ → List ℕ → Type 0
AreMetrics state now octets =
    (counts : List Sample)
    × (read octets ≡ at_line (counts ++ map of_up state.halls.items ++ flat_map of_took state.halls.items ++ map (of_age state.began now) state.halls.items))
