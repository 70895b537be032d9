-- The names of samples and of labels.
use Rattle.std.specs.Prelude.{ℕ, List, codes}
use Rattle.hallview_state.specs.Exposition.{Sample, named, no_sample, with_label}
use Rattle.hallview_state.specs.declared.families.{Family.{Family, TheVariants.{Machines, Orders, Deadlines, Moves, Pause, Up, Took, Age}}, Label.{Label, TheVariants.{Hall, Pool, Status, Kind, From, To}}}

-- the name of a family's samples
unfoldable pub sample_name : Family → List ℕ
sample_name Machines = codes "hall_machines"
sample_name Orders = codes "hall_orders_waiting"
sample_name Deadlines = codes "hall_deadline_seconds_min"
sample_name Moves = codes "hall_moves_total"
sample_name Pause = codes "hall_list_pause_seconds"
sample_name Up = codes "hall_desk_up"
sample_name Took = codes "hall_list_seconds"
sample_name Age = codes "hall_list_age_seconds"

-- the name of a label
unfoldable pub label_name : Label → List ℕ
label_name Hall = codes "hall"
label_name Pool = codes "pool"
label_name Status = codes "status"
label_name Kind = codes "kind"
label_name From = codes "from"
label_name To = codes "to"

-- a sample of a family, of a hall with this name
abbrev pub of_hall : Family → List ℕ → Sample
of_hall family hall = with_label (named no_sample (sample_name family)) (label_name Hall) hall
