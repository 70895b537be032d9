-- Laws of permission: what only the owner of a machine may do.
use Rattle.std.{specs.Prelude.{◌≡◌, Bool, true, false, Option, Some, None, is_some, if◌then◌else◌}, proofs.{Common.{refl, ap}, lemmas.Bool.true≢false}}
use Rattle.hall_types.specs.declared.{operator.Operator.Operator, machine.Machine.Machine, refusal.Refusal.{Refusal, TheVariants.NotOwner}}
use Rattle.life_cycle.specs.declared.action.Action.TheVariants as act
use Rattle.life_cycle.specs.{declared.action.Who.TheVariants.Owner, Table.who_gives, Permission.{is_owner, permission_for, who_acts}}

-- what is given to the owner alone is refused to all others
pub owner_alone : (o : Operator) (m : Machine) (member : Bool) → permission_for Owner o m member ≡ None → is_owner o m ≡ true
owner_alone o m member = by (is_owner o m)
  where
    by : (is : Bool) → (if is then None else Some NotOwner) ≡ None → is ≡ true
    by true e = refl
    by false e = absurd (true≢false (ap (λ (r : Option Refusal). is_some r) e))

-- only the owner may deploy
pub owner_deploys : (o : Operator) (m : Machine) (member : Bool) → permission_for (who_acts act.Deploy) o m member ≡ None → is_owner o m ≡ true
unfolding who_gives
owner_deploys o m member e = owner_alone o m member e

-- only the owner may release with erasing
pub owner_releases_erasing : (o : Operator) (m : Machine) (member : Bool) → permission_for (who_acts act.ReleaseErasing) o m member ≡ None → is_owner o m ≡ true
unfolding who_gives
owner_releases_erasing o m member e = owner_alone o m member e
