-- What a command is decided on, the rows of a hall that it names; and why it is refused: each cause, in the order in which they are looked for.
use Rattle.std.specs.{Prelude.{ℕ, ◌==◌, nat_le, not, Bool, true, false, ◌||◌, List, [], ◌∷◌, Option, Some, None, is_some, length, option_map, option_and_then}, Str.bytes_eq}
use Rattle.hall_types.specs.Kinds.{arch_number}
use Rattle.hall_types.specs.declared.act.Act.TheVariants as does
use Rattle.hall_types.specs.declared.refusal.Refusal.TheVariants as cause
use Rattle.hall_events.specs.declared.command.MachineCommand.TheVariants as on
use Rattle.life_cycle.specs.Table.{step_of}
use Rattle.life_cycle.specs.declared.action.Action.TheVariants as act
use Rattle.desk_command.specs.{Prelude.{Arch, max_number, next_number, Act, Erase, Machine, MAX_INTERFACES, MAX_MACHINES, Operator, Refusal, Status, New, Ready, Broken, FailedCommissioning, FailedTesting, Deployed, HallCommand, AddOperator, DisableOperator, AddPool, Grant, AddImage, DeleteImage, SetLive, AddMachine, OnMachine, MachineCommand, permission_for, who_acts, Action, By, Hall, pair, BootImage, interfaces_of, is_image_used, machine_with_uuid, operator_with_digest, at, size, row_at}, declared.view.CommandView.CommandView}

-- ---- the rows that a command names

-- nothing but the last numbers
abbrev pub nothing_of : Hall → CommandView
nothing_of h = record {
  machine = None;
  order = None;
  interfaces = 0;
  is_member = false;
  has_live = false;
  operator = None;
  has_digest = false;
  has_pool = false;
  image = None;
  image_used = false;
  by_mac = None;
  by_uuid = None;
  machines = 0;
  numbers = h.last;
}

abbrev pub has_pool : Hall → List ℕ → Bool
has_pool h pool = is_some (at h.pools pool)

abbrev pub has_member : Hall → List ℕ → List ℕ → Bool
has_member h pool operator = is_some (at h.members (pair pool operator))

-- the architecture of an image that is recorded
abbrev pub image_arch : Hall → List ℕ → Option Arch
image_arch h image = option_map (λ (i : BootImage). i.arch) (at h.images image)

abbrev pub by_mac : Hall → List ℕ → Option ℕ
by_mac h mac = option_map (λ i. i.machine) (at h.interfaces mac)

abbrev pub by_uuid : Hall → Option (List ℕ) → Option ℕ
by_uuid h uuid = option_and_then (λ its. option_map (λ m. m.id) (machine_with_uuid h its)) uuid

-- a machine, and the order that it waits for
abbrev pub of_machine : Hall → Machine → CommandView
of_machine h m = record (nothing_of h) { machine = Some m; order = row_at h.orders m.waiting }

-- the interfaces of a machine, and the machine that an address is recorded with
abbrev pub with_interfaces : Hall → Machine → List ℕ → CommandView
with_interfaces h m mac = record (of_machine h m) { interfaces = length (interfaces_of h m.id); by_mac = by_mac h mac }

-- whether a machine's architecture has a live image
abbrev pub with_live : Hall → Machine → CommandView
with_live h m = record (of_machine h m) { has_live = is_some (at h.lives (arch_number m.arch)) }

-- a release that erases needs the live image
abbrev pub with_live_if : Hall → Machine → Option Erase → CommandView
with_live_if h m None = of_machine h m
with_live_if h m (Some erase) = with_live h m

abbrev pub machine_view : Hall → Operator → Machine → MachineCommand → CommandView
machine_view h o m (on.AddInterface mac) = with_interfaces h m mac
machine_view h o m (on.RemoveInterface mac) = with_interfaces h m mac
machine_view h o m (on.SetPool pool) = record (of_machine h m) { has_pool = has_pool h pool }
machine_view h o m (on.Commission tests) = with_live h m
machine_view h o m (on.Act does.Test) = with_live h m
machine_view h o m (on.Act does.Allocate) = record (of_machine h m) { is_member = has_member h m.pool o.name }
machine_view h o m (on.Deploy image) = record (of_machine h m) { image = image_arch h image }
machine_view h o m (on.Release erase) = with_live_if h m erase
machine_view h o m (on.Act does.Rescue) = with_live h m
machine_view h o m other = of_machine h m

abbrev pub machine_view_if : Hall → Operator → Option Machine → MachineCommand → CommandView
machine_view_if h o None command = nothing_of h
machine_view_if h o (Some m) command = machine_view h o m command

-- what a hall has of an operator's command
unfoldable pub command_view : Hall → Operator → HallCommand → CommandView
command_view h o (AddOperator name role digest) =
    record (nothing_of h) { operator = at h.operators name; has_digest = is_some (operator_with_digest h digest) }
command_view h o (DisableOperator name) = record (nothing_of h) { operator = at h.operators name }
command_view h o (AddPool pool) = record (nothing_of h) { has_pool = has_pool h pool }
command_view h o (Grant pool name) =
    record (nothing_of h) { has_pool = has_pool h pool; operator = at h.operators name; is_member = has_member h pool name }
command_view h o (AddImage image) = record (nothing_of h) { image = image_arch h image.name }
command_view h o (DeleteImage image) =
    record (nothing_of h) { image = image_arch h image; image_used = is_image_used h image }
command_view h o (SetLive image) = record (nothing_of h) { image = image_arch h image }
command_view h o (AddMachine mac arch pool uuid) =
    record (nothing_of h) { has_pool = has_pool h pool; by_mac = by_mac h mac; by_uuid = by_uuid h uuid; machines = size h.machines }
command_view h o (OnMachine id version command) = machine_view_if h o (at h.machines id) command

-- ---- causes

abbrev pub when : Bool → Refusal → Option Refusal
when true refusal = Some refusal
when false refusal = None

-- the first cause that there is
abbrev pub first_of : List (Option Refusal) → Option Refusal
first_of [] = None
first_of (None ∷ causes) = first_of causes
first_of (Some refusal ∷ causes) = Some refusal

-- ---- commands on a machine

abbrev pub release_action : Option Erase → Action
release_action None = act.Release
release_action (Some erase) = act.ReleaseErasing

-- the action of the life cycle that a command is
abbrev pub action_of : MachineCommand → Option Action
action_of (on.Commission tests) = Some act.Commission
action_of (on.Deploy image) = Some act.Deploy
action_of (on.Release erase) = Some (release_action erase)
action_of (on.Act a) = Some (act.Act a)
action_of other = None

abbrev pub is_number : Option ℕ → ℕ → Bool
is_number None id = false
is_number (Some its) id = its == id

-- a row that the command names isn't there
abbrev pub missing : CommandView → Machine → MachineCommand → Option Refusal
missing v m (on.RemoveInterface mac) = when (not (is_number v.by_mac m.id)) cause.NoInterface
missing v m (on.SetPool pool) = when (not v.has_pool) cause.NoPool
missing v m (on.Deploy image) = when (not (is_some v.image)) cause.NoImage
missing v m other = None

-- who may act, where it is an action
abbrev pub forbidden : Operator → Machine → Bool → Option Action → Option Refusal
forbidden o m member None = None
forbidden o m member (Some action) = permission_for (who_acts action) o m member

-- the version that the command wants isn't the machine's
abbrev pub is_stale : Option ℕ → ℕ → Bool
is_stale None its = false
is_stale (Some wanted) its = not (wanted == its)

-- a locked machine can only be unlocked
abbrev pub is_barred : Machine → MachineCommand → Bool
is_barred m (on.Act does.Unlock) = false
is_barred m other = m.locked

-- in these statuses a machine can be deleted, or put into another pool
abbrev pub is_idle : Status → Bool
is_idle New = true
is_idle Ready = true
is_idle Broken = true
is_idle FailedCommissioning = true
is_idle FailedTesting = true
is_idle other = false

-- the table has no row for the action
abbrev pub no_step : Machine → Action → Option Refusal
no_step m action = when (not (is_some (step_of m (By action)))) cause.WrongStatus

abbrev pub no_live : CommandView → Option Refusal
no_live v = when (not v.has_live) cause.NoLiveImage

abbrev pub no_live_if : CommandView → Option Erase → Option Refusal
no_live_if v None = None
no_live_if v (Some erase) = no_live v

abbrev pub is_arch : Option Arch → Arch → Bool
is_arch None arch = false
is_arch (Some its) arch = arch_number its == arch_number arch

abbrev pub is_deployed : Status → Bool
is_deployed Deployed = true
is_deployed other = false

-- the causes that are an act's own
abbrev pub own_of_act : CommandView → Machine → Act → List (Option Refusal)
own_of_act v m does.Lock = when (not (is_deployed m.status)) cause.WrongStatus ∷ []
own_of_act v m does.Unlock = when (not m.locked) cause.WrongStatus ∷ []
own_of_act v m does.Test = no_step m (act.Act does.Test) ∷ no_live v ∷ []
own_of_act v m does.Rescue = no_step m (act.Act does.Rescue) ∷ no_live v ∷ []
own_of_act v m other = no_step m (act.Act other) ∷ []

-- the causes that are the command's own
abbrev pub own : CommandView → Machine → MachineCommand → List (Option Refusal)
own v m (on.AddInterface mac) = when (is_some v.by_mac) cause.Taken ∷ when (nat_le MAX_INTERFACES v.interfaces) cause.Full ∷ []
own v m (on.RemoveInterface mac) = when (nat_le v.interfaces 1) cause.LastInterface ∷ []
own v m (on.SetPool pool) = when (not (is_idle m.status)) cause.WrongStatus ∷ []
own v m (on.Commission tests) = no_step m act.Commission ∷ no_live v ∷ []
own v m on.Delete = when (not (is_idle m.status)) cause.WrongStatus ∷ []
own v m (on.Deploy image) = no_step m act.Deploy ∷ when (not (is_arch v.image m.arch)) cause.WrongArch ∷ []
own v m (on.Release erase) = no_step m (release_action erase) ∷ no_live_if v erase ∷ []
own v m (on.Act a) = own_of_act v m a

-- the machine has its last version
abbrev pub is_exhausted : Machine → Bool
is_exhausted m = m.version == max_number

abbrev pub causes_at : Option Machine → CommandView → Operator → Option ℕ → MachineCommand → List (Option Refusal)
causes_at None v o version command = Some cause.NoMachine ∷ []
causes_at (Some m) v o version command =
    missing v m command
    ∷ forbidden o m v.is_member (action_of command)
    ∷ when (is_stale version m.version) cause.StaleVersion
    ∷ when (is_barred m command) cause.Locked
    ∷ first_of (own v m command)
    ∷ when (is_exhausted m) cause.Exhausted
    ∷ []

-- ---- all commands

unfoldable pub causes : CommandView → Operator → HallCommand → List (Option Refusal)
causes v o (AddOperator name role digest) = when (is_some v.operator || v.has_digest) cause.Taken ∷ []
causes v o (DisableOperator name) =
    when (not (is_some v.operator)) cause.NoOperator ∷ when (bytes_eq name o.name) cause.SelfDisable ∷ []
causes v o (AddPool pool) = when v.has_pool cause.Taken ∷ []
causes v o (Grant pool name) =
    when (not v.has_pool) cause.NoPool ∷ when (not (is_some v.operator)) cause.NoOperator ∷ when v.is_member cause.Taken ∷ []
causes v o (AddImage image) = when (is_some v.image) cause.Taken ∷ []
causes v o (DeleteImage image) = when (not (is_some v.image)) cause.NoImage ∷ when v.image_used cause.InUse ∷ []
causes v o (SetLive image) = when (not (is_some v.image)) cause.NoImage ∷ []
causes v o (AddMachine mac arch pool uuid) =
    when (not v.has_pool) cause.NoPool
    ∷ when (is_some v.by_mac || is_some v.by_uuid) cause.Taken
    ∷ when (nat_le MAX_MACHINES v.machines) cause.Full
    ∷ when (not (is_some (next_number v.numbers.machine))) cause.Exhausted
    ∷ []
causes v o (OnMachine id version command) = causes_at v.machine v o version command
