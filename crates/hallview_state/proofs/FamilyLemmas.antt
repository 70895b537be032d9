-- Names of samples and of labels are plain.
use Rattle.std.{proofs.Common.{◌≡◌, ℕ, List, ◌++◌, refl, true}, specs.Prelude.{codes}}
use Rattle.hallview_state.specs.{Exposition.{IsBegun, is_plain, label_text, named, no_sample, with_label}, ExpositionLaws.{samples_begin}, Families.{label_name, sample_name}, declared.families.{Family.{Family, TheVariants.{Machines, Orders, Deadlines, Moves, Pause, Up, Took, Age}}, Label.{Label, TheVariants.{Hall, Pool, Status, Kind, From, To}}}}

pub label_is_plain : (label : Label) → is_plain (label_name label) ≡ true
unfolding label_name
label_is_plain Hall = refl
label_is_plain Pool = refl
label_is_plain Status = refl
label_is_plain Kind = refl
label_is_plain From = refl
label_is_plain To = refl

-- a sample of a family begins with its name and the hall
pub family_begins : (family : Family) (text : List ℕ)
    → IsBegun (sample_name family ++ codes "{" ++ label_text (label_name Hall) text) (with_label (named no_sample (sample_name family)) (label_name Hall) text)
unfolding sample_name label_name
family_begins Machines text = samples_begin 104 (codes "all_machines") (codes "hall") text refl refl refl
family_begins Orders text = samples_begin 104 (codes "all_orders_waiting") (codes "hall") text refl refl refl
family_begins Deadlines text = samples_begin 104 (codes "all_deadline_seconds_min") (codes "hall") text refl refl refl
family_begins Moves text = samples_begin 104 (codes "all_moves_total") (codes "hall") text refl refl refl
family_begins Pause text = samples_begin 104 (codes "all_list_pause_seconds") (codes "hall") text refl refl refl
family_begins Up text = samples_begin 104 (codes "all_desk_up") (codes "hall") text refl refl refl
family_begins Took text = samples_begin 104 (codes "all_list_seconds") (codes "hall") text refl refl refl
family_begins Age text = samples_begin 104 (codes "all_list_age_seconds") (codes "hall") text refl refl refl
