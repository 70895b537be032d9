-- Who may act on a machine.
use Rattle.std.specs.{Prelude.{ℕ, Bool, true, false, ◌||◌, List, Option, Some, None, Result, Ok, Err, if◌then◌else◌}, Str.bytes_eq}
use Rattle.hall_types.specs.declared.{kinds.Role.Role, operator.Operator.Operator, machine.Machine.Machine, refusal.Refusal.{Refusal, TheVariants.{NotOwner, NotMember}}}
use Rattle.hall_types.specs.declared.kinds.Role.TheVariants as role
use Rattle.life_cycle.specs.{declared.{signal.Signal.TheVariants.By, action.{Action.Action, Who.{Who, TheVariants.{Admin, MemberOrAdmin, Owner, OwnerOrAdmin, Nobody}}}}, Table.who_gives}
use Rattle.life_cycle.specs.declared.action.Action.TheVariants as act
use Rattle.hall_types.specs.declared.act.Act.TheVariants as does

-- who may act: what the table says of the action; the owner or an admin may lock and unlock, which have no row
abbrev pub who_acts : Action → Who
who_acts (act.Act does.Lock) = OwnerOrAdmin
who_acts (act.Act does.Unlock) = OwnerOrAdmin
who_acts action = who_gives (By action)

abbrev pub is_admin_role : Role → Bool
is_admin_role role.Admin = true
is_admin_role other = false

-- whether an operator is an admin
abbrev pub is_admin : Operator → Bool
is_admin o = is_admin_role o.role

abbrev pub is_owner_in : Option (List ℕ) → List ℕ → Bool
is_owner_in None name = false
is_owner_in (Some its) name = bytes_eq its name

-- whether an operator owns a machine
abbrev pub is_owner : Operator → Machine → Bool
is_owner o m = is_owner_in m.owner o.name

-- why these may not act, nothing if they may; nothing for an admin's action, since the role is asked for before
abbrev pub permission_for : Who → Operator → Machine → Bool → Option Refusal
permission_for Admin o m member = None
permission_for MemberOrAdmin o m member = if is_admin o || member then None else Some NotMember
permission_for Owner o m member = if is_owner o m then None else Some NotOwner
permission_for OwnerOrAdmin o m member = if is_admin o || is_owner o m then None else Some NotOwner
permission_for Nobody o m member = None

-- the answer: the refusal, if there is one
abbrev pub refused_if : Option Refusal → Result (Unit {0}) Refusal
refused_if None = Ok tt
refused_if (Some refusal) = Err refusal
