-- Joining the values of option 52 one after the other.
use Rattle.std.{proofs.Common.{◌≡◌, ℕ, List, [], ◌∷◌, ◌++◌, Option, Some, None, refl}, specs.Prelude.unwrap_or}
use Rattle.dhcp_frame.{specs.{declared.overload.Start.{Start, TheVariants.{Absent, Empty, One}}, Start.{start_of, start_with}}, proofs.AreaLemmas.{AreWhole-one, entries_of-one, value_of-same, value_of-other}}

pub start_with-absent : (more : Option (List ℕ)) → start_with Absent more ≡ start_of more
unfolding start_with
start_with-absent more = refl

pub start_with-nothing : (start : Start) → start_with start None ≡ start
unfolding start_with start_of
start_with-nothing Absent = refl
start_with-nothing other = refl

pub start_with-start_with : (start : Start) (value : List ℕ) (more : Option (List ℕ)) → start_with (start_with start (Some value)) more ≡ start_with start (Some (value ++ unwrap_or more []))
unfolding start_with start_of
start_with-start_with Absent (a ∷ b ∷ value) more = refl
start_with-start_with Empty (a ∷ b ∷ value) more = refl
start_with-start_with (One b) (a ∷ value) more = refl
start_with-start_with other value more = refl

pub ruleset overload_steps = (AreWhole-one, entries_of-one, value_of-same, value_of-other, start_with-absent, start_with-nothing, start_with-start_with)
