-- When a hall is sound: what its rows have to say of each other.
use Rattle.std.specs.Prelude.{◌≡◌, ℕ, ◌≤◌, ◌⊎◌, ◌==◌, List, Some, None, is_some, IsSome, IsTrue}
use Rattle.hall_types.specs.{Rows.{at, size, how_many}, Hall.{Schema, first, second, Hall, default_pool}, Keyed.IsKeyed, Lookup.{HasRow, HasRowIf}, declared.{boot.{Boot.Boot, TheConstants.MAX_BOOTS}, image.Live.Live, machine.{Interface.Interface, Machine.Machine, TheConstants.{MAX_MACHINES, MAX_INTERFACES}}, operator.{Member.Member, Operator.Operator}, order.Order.Order, receipt.Receipt.Receipt, kinds.{OrderStage.TheVariants.Waiting, Purpose.Purpose, Stage.TheVariants.{Offered, Started}}, status.Status.TheVariants.{Deployed, Rescue}}}
use Rattle.life_cycle.specs.{Entering.{limit_of, keeps_erase, is_rescue}, Laws.IsRemembered}
use Rattle.boot_desk.specs.{declared.{class.ScriptClass.TheVariants.Work, views.BootView.BootView}, Class.class_of, Fetch.image_for, Views.view_of}

-- how the disks are erased is kept exactly in Disk erasing and Failed disk erasing; the first schema keeps it nowhere
abbrev pub KeepsErase : Schema → Machine → Type 0
KeepsErase first m = m.erase ≡ None
KeepsErase second m = is_some m.erase ≡ keeps_erase m.status

-- a machine with the rows that belong to it
pub record IsSoundMachine (v : BootView) : Type 0 where
  -- its current boot is a row of its own, offered or started, for what the machine works for
  pub boot : (number : ℕ) → v.machine.boot ≡ Some number →
      (b : Boot) × (v.boot ≡ Some b) × (b.machine ≡ v.machine.id) × ((b.stage ≡ Offered) ⊎ (b.stage ≡ Started)) × (class_of v.machine ≡ Work b.purpose)
  -- the order that it waits for is a row of its own, which waits
  pub order : (number : ℕ) → v.machine.waiting ≡ Some number → (o : Order) × (v.order ≡ Some o) × (o.machine ≡ v.machine.id) × (o.stage ≡ Waiting)
  -- a Deployed machine waits for no order
  pub deployed : v.machine.status ≡ Deployed → v.machine.waiting ≡ None
  -- at most three boots are counted, and none in Rescue mode
  pub boots : v.machine.boots ≤ MAX_BOOTS
  pub rescue : v.machine.status ≡ Rescue → v.machine.boots ≡ 0
  -- a locked machine is Deployed
  pub locked : IsTrue v.machine.locked → v.machine.status ≡ Deployed
  -- it has a deadline exactly in the statuses that have a limit
  pub deadline : is_some v.machine.deadline ≡ is_some (limit_of v.machine.status)
  -- it remembers a status exactly in the five statuses of rescue, and that is Deployed or Broken
  pub back : is_some v.machine.back ≡ is_rescue v.machine.status
  pub remembered : IsRemembered v.machine.back
  -- the image that it works with is recorded
  pub image : (purpose : Purpose) → class_of v.machine ≡ Work purpose → IsSome (image_for purpose v)

pub record IsSound (h : Hall) : Type 0 where
  -- every row stands under its own key
  pub keyed : IsKeyed h
  -- every reference is to a row
  pub member_pools : (key : List (List ℕ)) (m : Member) → at h.members key ≡ Some m → HasRow h.pools m.pool
  pub member_operators : (key : List (List ℕ)) (m : Member) → at h.members key ≡ Some m → HasRow h.operators m.operator
  pub live_images : (arch : ℕ) (l : Live) → at h.lives arch ≡ Some l → HasRow h.images l.image
  pub machine_pools : (id : ℕ) (m : Machine) → at h.machines id ≡ Some m → HasRow h.pools m.pool
  pub machine_owners : (id : ℕ) (m : Machine) → at h.machines id ≡ Some m → HasRowIf h.operators m.owner
  pub machine_images : (id : ℕ) (m : Machine) → at h.machines id ≡ Some m → HasRowIf h.images m.image
  pub interface_machines : (mac : List ℕ) (i : Interface) → at h.interfaces mac ≡ Some i → HasRow h.machines i.machine
  pub boot_machines : (number : ℕ) (b : Boot) → at h.boots number ≡ Some b → HasRow h.machines b.machine
  pub order_machines : (number : ℕ) (o : Order) → at h.orders number ≡ Some o → HasRow h.machines o.machine
  pub receipt_operators : (key : List (List ℕ)) (r : Receipt) → at h.receipts key ≡ Some r → HasRow h.operators r.operator
  -- new machines have their pool
  pub default : HasRow h.pools default_pool
  -- no two machines have one UUID, and no two operators one digest
  pub uuids : (id other : ℕ) (m n : Machine) (uuid : List ℕ) → at h.machines id ≡ Some m → at h.machines other ≡ Some n → m.uuid ≡ Some uuid → n.uuid ≡ Some uuid → id ≡ other
  pub digests : (name other : List ℕ) (o p : Operator) → at h.operators name ≡ Some o → at h.operators other ≡ Some p → o.digest ≡ p.digest → name ≡ other
  -- there are at most 10,000 machines, with 1 to 8 interfaces each
  pub few_machines : size h.machines ≤ MAX_MACHINES
  pub some_interfaces : (id : ℕ) → HasRow h.machines id → 1 ≤ how_many (λ i. i.machine == id) h.interfaces
  pub few_interfaces : (id : ℕ) → HasRow h.machines id → how_many (λ i. i.machine == id) h.interfaces ≤ MAX_INTERFACES
  -- every machine is sound
  pub machines : (id : ℕ) (m : Machine) → at h.machines id ≡ Some m → IsSoundMachine (view_of h m)
  pub erasing : (id : ℕ) (m : Machine) → at h.machines id ≡ Some m → KeepsErase h.schema m
  -- an order that waits is the one that its machine waits for
  pub waiting : (number : ℕ) (o : Order) → at h.orders number ≡ Some o → o.stage ≡ Waiting →
      (m : Machine) × (at h.machines o.machine ≡ Some m) × (m.waiting ≡ Some number)
  -- no number is above the last one that was issued
  pub last_machine : (id : ℕ) → HasRow h.machines id → id ≤ h.last.machine
  pub last_boot : (number : ℕ) → HasRow h.boots number → number ≤ h.last.boot
  pub last_order : (number : ℕ) → HasRow h.orders number → number ≤ h.last.order
