-- Worked commands, computed on the definitions alone.
use Rattle.std.{proofs.Common.{◌≡◌, ℕ, true, false, [], ◌∷◌, Some, None, Ok, refl}, specs.Prelude.{⊤, codes}}
use Rattle.hall_types.specs.{Kinds.arch_number, Status.status_number}
use Rattle.hall_types.specs.declared.kinds.Erase.TheVariants as erase
use Rattle.hall_types.specs.declared.kinds.OrderStage.TheVariants as order
use Rattle.hall_types.specs.declared.kinds.Role.TheVariants as role
use Rattle.hall_types.specs.declared.refusal.Refusal.TheVariants as refusal
use Rattle.hall_types.specs.declared.status.Status.TheVariants as status
use Rattle.hall_types.specs.declared.act.Act.TheVariants as does
use Rattle.hall_events.specs.declared.command.MachineCommand.TheVariants as on
use Rattle.life_cycle.specs.{Entering.{limit_of, keeps_owner, boot_after, is_rescue, is_origin, back_after, keeps_erase}, Table.{step_of, who_gives}}
use Rattle.desk_command.specs.{Prelude.{Bios, Uefi64, PutMachine, PutOrder, PutNumbers, MachineGone, Cycle, Off, Machine, Operator, Order, blank_machine, machine_is, machine_gone, done, AddMachine, AddPool, DisableOperator, OnMachine}, Causes.{causes, first_of}, Effect.effect, declared.view.CommandView.CommandView}

unfoldable commands : ⊤
unfolding causes effect limit_of keeps_owner boot_after is_rescue is_origin back_after keeps_erase step_of who_gives status_number arch_number
commands = tt

abbrev ada : Operator
ada = record { name = codes "ada"; role = role.Admin; digest = []; enabled = true }

abbrev olga : Operator
olga = record { name = codes "olga"; role = role.User; digest = []; enabled = true }

-- machine 1, Ready in version 6
abbrev ready : Machine
ready = record (blank_machine 1 Uefi64 (codes "lab") None) { status = status.Ready; tests = true; version = 6 }

-- what is known of a command on a machine, where nothing is wanting
abbrev known : Machine → CommandView
known m = record {
  machine = Some m;
  order = None;
  interfaces = 1;
  is_member = true;
  has_live = true;
  operator = None;
  has_digest = false;
  has_pool = true;
  image = Some Uefi64;
  image_used = false;
  by_mac = Some 1;
  by_uuid = None;
  machines = 1;
  numbers = record { machine = 1; boot = 2; order = 2 };
}

-- ---- a machine is allocated, deployed, locked and released

allocated_by_a_member : effect (known ready) olga (OnMachine 1 None (on.Act does.Allocate)) 1200
    ≡ Ok (PutMachine (record ready { status = status.Allocated; owner = Some (codes "olga"); version = 7 }) (Some 6) ∷ [], machine_is 1 status.Allocated 7)
unfolding commands
allocated_by_a_member = refl

abbrev allocated : Machine
allocated = record ready { status = status.Allocated; owner = Some (codes "olga"); version = 7 }

abbrev cycle : ℕ → Order
cycle number = record { number = number; machine = 1; kind = Cycle; stage = order.Waiting }

deployed_by_its_owner : effect (known allocated) olga (OnMachine 1 None (on.Deploy (codes "jammy"))) 1300
    ≡ Ok (
      PutMachine (record allocated { status = status.Deploying; image = Some (codes "jammy"); version = 8; deadline = Some 3700; waiting = Some 3 }) (Some 7)
          ∷ PutOrder (cycle 3) ∷ PutNumbers (record { machine = 1; boot = 2; order = 3 }) ∷ [],
      machine_is 1 status.Deploying 8,
    )
unfolding commands
deployed_by_its_owner = refl

abbrev deployed : Machine
deployed = record allocated { status = status.Deployed; image = Some (codes "jammy"); version = 10 }

admin_may_not_release_with_erasing : first_of (causes (known deployed) ada (OnMachine 1 None (on.Release (Some erase.Full)))) ≡ Some refusal.NotOwner
unfolding commands
admin_may_not_release_with_erasing = refl

admin_may_release_without : first_of (causes (known deployed) ada (OnMachine 1 None (on.Release None))) ≡ None
unfolding commands
admin_may_release_without = refl

owner_releases_with_erasing : effect (known deployed) olga (OnMachine 1 None (on.Release (Some erase.Quick))) 1800
    ≡ Ok (
      PutMachine (record deployed { status = status.DiskErasing; erase = Some erase.Quick; version = 11; deadline = Some 9000; waiting = Some 3 }) (Some 10)
          ∷ PutOrder (cycle 3) ∷ PutNumbers (record { machine = 1; boot = 2; order = 3 }) ∷ [],
      machine_is 1 status.DiskErasing 11,
    )
unfolding commands
owner_releases_with_erasing = refl

abbrev locked : Machine
locked = record deployed { locked = true; version = 11 }

owner_locks : effect (known deployed) olga (OnMachine 1 None (on.Act does.Lock)) 1400 ≡ Ok (PutMachine locked (Some 10) ∷ [], machine_is 1 status.Deployed 11)
unfolding commands
owner_locks = refl

locked_machine_is_not_released : first_of (causes (known locked) olga (OnMachine 1 None (on.Release None))) ≡ Some refusal.Locked
unfolding commands
locked_machine_is_not_released = refl

stale_comes_before_locked : first_of (causes (known locked) olga (OnMachine 1 (Some 10) (on.Act does.Lock))) ≡ Some refusal.StaleVersion
unfolding commands
stale_comes_before_locked = refl

unlocked_machine_is_not_unlocked : first_of (causes (known deployed) olga (OnMachine 1 None (on.Act does.Unlock))) ≡ Some refusal.WrongStatus
unfolding commands
unlocked_machine_is_not_unlocked = refl

last_version_is_exhausted : first_of (causes (known (record locked { version = 1000000000000000 })) olga (OnMachine 1 None (on.Act does.Unlock))) ≡ Some refusal.Exhausted
unfolding commands
last_version_is_exhausted = refl

-- ---- an abort withdraws the order that waits

abbrev commissioning : Machine
commissioning = record ready { status = status.Commissioning; deadline = Some 2800; waiting = Some 1 }

aborted_commissioning : effect (record (known commissioning) { order = Some (cycle 1) }) ada (OnMachine 1 None (on.Act does.Abort)) 1500
    ≡ Ok (
      PutMachine (record commissioning { status = status.New; version = 7; deadline = None; waiting = Some 3 }) (Some 6)
          ∷ PutOrder (record (cycle 1) { stage = order.Withdrawn }) ∷ PutOrder (record (cycle 3) { kind = Off })
          ∷ PutNumbers (record { machine = 1; boot = 2; order = 3 }) ∷ [],
      machine_is 1 status.New 7,
    )
unfolding commands
aborted_commissioning = refl

-- ---- causes of their own

commission_wants_a_live_image : first_of (causes (record (known ready) { has_live = false }) ada (OnMachine 1 None (on.Commission true))) ≡ Some refusal.NoLiveImage
unfolding commands
commission_wants_a_live_image = refl

deploy_wants_an_image_of_the_architecture : first_of (causes (record (known allocated) { image = Some Bios }) olga (OnMachine 1 None (on.Deploy (codes "old")))) ≡ Some refusal.WrongArch
unfolding commands
deploy_wants_an_image_of_the_architecture = refl

image_comes_before_owner : first_of (causes (record (known allocated) { image = None }) ada (OnMachine 1 None (on.Deploy (codes "none")))) ≡ Some refusal.NoImage
unfolding commands
image_comes_before_owner = refl

last_interface_stays : first_of (causes (known ready) ada (OnMachine 1 None (on.RemoveInterface []))) ≡ Some refusal.LastInterface
unfolding commands
last_interface_stays = refl

interface_of_another_machine : first_of (causes (record (known ready) { by_mac = Some 2 }) ada (OnMachine 1 None (on.RemoveInterface []))) ≡ Some refusal.NoInterface
unfolding commands
interface_of_another_machine = refl

stranger_may_not_allocate : first_of (causes (record (known ready) { is_member = false }) olga (OnMachine 1 None (on.Act does.Allocate))) ≡ Some refusal.NotMember
unfolding commands
stranger_may_not_allocate = refl

same_pool_changes_nothing : effect (known ready) ada (OnMachine 1 None (on.SetPool (codes "lab"))) 1000 ≡ Ok ([], machine_is 1 status.Ready 6)
unfolding commands
same_pool_changes_nothing = refl

admin_disables_not_herself : first_of (causes (record (known ready) { operator = Some ada }) ada (DisableOperator (codes "ada"))) ≡ Some refusal.SelfDisable
unfolding commands
admin_disables_not_herself = refl

disabled_operator_stays_disabled : effect (record (known ready) { operator = Some (record olga { enabled = false }) }) ada (DisableOperator (codes "olga")) 1000 ≡ Ok ([], done)
unfolding commands
disabled_operator_stays_disabled = refl

pool_is_taken : first_of (causes (known ready) ada (AddPool (codes "lab"))) ≡ Some refusal.Taken
unfolding commands
pool_is_taken = refl

full_hall_comes_after_taken : first_of (causes (record (known ready) { machines = 10000 }) ada (AddMachine [] Uefi64 (codes "lab") None)) ≡ Some refusal.Taken
unfolding commands
full_hall_comes_after_taken = refl

machine_is_deleted : effect (known ready) ada (OnMachine 1 None on.Delete) 1000 ≡ Ok (MachineGone 1 ∷ [], machine_gone 1)
unfolding commands
machine_is_deleted = refl
