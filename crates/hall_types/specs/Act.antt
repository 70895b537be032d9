-- What operators do to a machine by a word alone.
use Rattle.std.specs.Prelude.{ℕ, List, [], ◌∷◌, Option, codes}
use Rattle.hall_types.specs.{Kinds.with_text, declared.act.Act.{Act, TheVariants.{Test, Override, Fix, Allocate, Rescue, Abort, Lock, Unlock, ExitRescue, Break}}}

unfoldable pub act_text : Act → List ℕ
act_text Test = codes "test"
act_text Override = codes "override"
act_text Fix = codes "fix"
act_text Allocate = codes "allocate"
act_text Rescue = codes "rescue"
act_text Abort = codes "abort"
act_text Lock = codes "lock"
act_text Unlock = codes "unlock"
act_text ExitRescue = codes "exit_rescue"
act_text Break = codes "break"

-- its place among them
abbrev pub act_place : Act → ℕ
act_place Test = 0
act_place Override = 1
act_place Fix = 2
act_place Allocate = 3
act_place Rescue = 4
act_place Abort = 5
act_place Lock = 6
act_place Unlock = 7
act_place ExitRescue = 8
act_place Break = 9

abbrev pub acts : List Act
acts = Test ∷ Override ∷ Fix ∷ Allocate ∷ Rescue ∷ Abort ∷ Lock ∷ Unlock ∷ ExitRescue ∷ Break ∷ []

abbrev pub act_of_text : List ℕ → Option Act
act_of_text text = with_text act_text text acts
