-- What follows for a command from the absence of each cause to refuse it.
use Rattle.std.{specs.{Prelude.{◌≡◌, not, ℕ, Bool, true, false, List, [], ◌∷◌, Option, Some, None, find, is_some, option_map}, Option.option_flatten}, proofs.{Common.{refl, ap, ◌∙◌}, lemmas.Bool.not-false}}
use Rattle.hall_types.specs.declared.refusal.Refusal.TheVariants as cause
use Rattle.desk_command.specs.{Prelude.{Machine, Operator, Refusal, MachineCommand}, Causes.{action_of, causes_at, first_of, forbidden, is_barred, is_stale, missing, own, when}, declared.view.CommandView.CommandView}

-- where there is no first cause, there is neither this one nor one after it
pub first_none : (c : Option Refusal) (cs : List (Option Refusal)) → first_of (c ∷ cs) ≡ None → (c ≡ None) × (first_of cs ≡ None)
first_none None cs is = (refl, is)
first_none (Some refusal) cs is = cc

-- the first cause is what the first that is one holds
found_first : (cs : List (Option Refusal)) → option_flatten (find (λ c. is_some c) cs) ≡ first_of cs
found_first [] = refl
found_first (None ∷ cs) = found_first cs
found_first (Some refusal ∷ cs) = refl

pub first_found : (cs : List (Option Refusal)) (found : Option (Option Refusal)) (first : Option Refusal)
    → found ≡ find (λ c. is_some c) cs → first ≡ option_flatten found → first ≡ first_of cs
first_found cs found first is its = its ∙ ap option_flatten is ∙ found_first cs

pub when_none : (b : Bool) (refusal : Refusal) → when b refusal ≡ None → b ≡ false
when_none true refusal is = cc
when_none false refusal is = refl

-- a cause that a test excludes: the test holds
pub unless_none : (b : Bool) (refusal : Refusal) → when (not b) refusal ≡ None → b ≡ true
unless_none b refusal is = not-false b (when_none (not b) refusal is)

-- nothing is there
pub none_is : {X : Type 0} (o : Option X) → is_some o ≡ false → o ≡ None
none_is None is = refl
none_is (Some x) is = cc

pub none_mapped : {X Y : Type 0} (f : X → Y) (o : Option X) → is_some (option_map f o) ≡ false → o ≡ None
none_mapped f None is = refl
none_mapped f (Some x) is = cc

-- nothing that the command names is missing, the machine isn't locked against it, and there is no cause of the command's own
pub record IsAllowed (v : CommandView) (m : Machine) (command : MachineCommand) : Type 0 where
  pub found : missing v m command ≡ None
  pub unlocked : is_barred m command ≡ false
  pub own : first_of (own v m command) ≡ None

pub allowed : (v : CommandView) (m : Machine) (o : Operator) (version : Option ℕ) (command : MachineCommand) → first_of (causes_at (Some m) v o version command) ≡ None → IsAllowed v m command
allowed v m o version command is =
    let after_missing = first_none (missing v m command) _ is in
    let after_forbidden = first_none (forbidden o m v.is_member (action_of command)) _ after_missing.1 in
    let after_stale = first_none (when (is_stale version m.version) cause.StaleVersion) _ after_forbidden.1 in
    let after_barred = first_none (when (is_barred m command) cause.Locked) _ after_stale.1 in
    let after_own = first_none (first_of (own v m command)) _ after_barred.1 in
    record { found = after_missing.0; unlocked = when_none (is_barred m command) cause.Locked after_barred.0; own = after_own.0 }

-- its operator may act
pub may_act : (v : CommandView) (m : Machine) (o : Operator) (version : Option ℕ) (command : MachineCommand) → first_of (causes_at (Some m) v o version command) ≡ None → forbidden o m v.is_member (action_of command) ≡ None
may_act v m o version command is =
    let after_missing = first_none (missing v m command) _ is in
    (first_none (forbidden o m v.is_member (action_of command)) _ after_missing.1).0
