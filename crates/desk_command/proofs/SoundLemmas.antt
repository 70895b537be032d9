-- A sound hall stays sound when the rows of a command are written: a machine's lock, its pool and its interfaces; its entries; all other rows.
use Rattle.std.{specs.Prelude.{◌≡◌, ◌||◌, not, ℕ, List, [], ◌∷◌, Option, Some, None, Ok, Err, is_some, ◌<◌, ◌≤◌, ◌+◌, ◌==◌, nat_le, Bool, true, false, length, option_map, if◌then◌else◌, bytes_eq}, proofs.{Common.{refl, sym, ap, subst, arith, ◌∙◌}, lemmas.Bool.{or_parts, eqb-true, leb-false}}}
use Rattle.boot_desk.specs.Class.{class_in}
use Rattle.desk_command.{specs.{Prelude.{second, Hall, applied, is_image_used, operator_with_digest, HasRow, at, Machine, Operator, Commissioning, DiskErasing, EnteringRescue, Testing, applied_append, HallCommand, AddOperator, DisableOperator, AddPool, Grant, AddImage, DeleteImage, SetLive, AddMachine, OnMachine, MachineCommand, IsSound, operators_stay, how_many-new, written, how_many-listed, interfaces_of, next_version, Rows, gone, how_many, one_if, put, texts, at-put-same, gone_found, how_many-gone, IsKeyed, keyed-written, Interface, MAX_INTERFACES, Status, Deployed, machine_row, IsSoundMachine, boots_same, each_put, orders_same, stayed_sound, waits_same, view_of}, Causes.{causes, command_view, first_of, has_pool, image_arch, is_deployed, machine_view, of_machine, when, by_mac, is_number, with_interfaces}, Command.{command_decision, receipt_of, with_receipt}, DecisionLaws.{command_cases, machine_cases, sender_is}, Effect.{Effect, effect, machine_effect, about, edited, moved_to_pool, raised}, AllowedLaws.{IsAllowed, first_none, unless_none, when_none}}, proofs.{ActionLemmas.Keeps, AddMachineLemmas.add_machine_sound, DeleteLemmas.without_machine_sound, EnteringLemmas.{abort_sound, deploy_sound, given, live_sound, no_erasing, plain_sound}, OtherRowLemmas.{image_sound, member_sound, pool_sound, receipt_sound}, PlainLemmas.{add_operator_sound, delete_image_sound, disable_sound, set_live_sound}}}
use Rattle.hall_types.specs.Rows.{passes}
use Rattle.hall_types.specs.declared.change.RowWrite.TheVariants as write
use Rattle.hall_types.specs.declared.kinds.Purpose.TheVariants as purpose
use Rattle.hall_types.specs.declared.refusal.Refusal.TheVariants as cause
use Rattle.hall_types.specs.declared.act.Act.TheVariants as does
use Rattle.hall_events.specs.declared.command.MachineCommand.TheVariants as on
use Rattle.life_cycle.specs.declared.action.Action.TheVariants as act

-- ---- a machine's lock and pool

-- the machine in its next version, with this pool, locked or not
abbrev pub edit : Machine → List ℕ → Bool → Machine
edit m pool locked = record m { version = next_version m.version; pool = pool; locked = locked }

module _ (h : Hall) (s : IsSound h) (in_second : h.schema ≡ second) (m : Machine) (was : at h.machines m.id ≡ Some m) where
  v : IsSoundMachine (view_of h m)
  v = s.machines m.id m was

  -- a pool that is recorded, and a lock of a Deployed machine alone
  pub edit_sound : (pool : List ℕ) (locked : Bool) → HasRow h.pools pool → (locked ≡ true → m.status ≡ Deployed) → IsSound (written (machine_row m (edit m pool locked)) h)
  edit_sound pool locked has deployed =
      stayed_sound h m s was (edit m pool locked) h.boots h.orders h.last.boot has deployed
      (boots_same h m s) (omega arith) v.boot v.boots v.rescue (orders_same h m s) (waits_same h m s was) v.order v.deployed

  own_pool : HasRow h.pools m.pool
  own_pool = s.machine_pools m.id m was

  pub raised_sound : IsSound (written (machine_row m (raised m)) h)
  raised_sound = edit_sound m.pool m.locked own_pool v.locked

  pub lock_sound : is_deployed m.status ≡ true → IsSound (written (machine_row m (record (raised m) { locked = true })) h)
  lock_sound is = edit_sound m.pool true own_pool (λ t. deployed m.status is)
    where
      deployed : (status : Status) → is_deployed status ≡ true → status ≡ Deployed
      deployed Deployed is = refl
      deployed other is = cc

  pub unlock_sound : IsSound (written (machine_row m (record (raised m) { locked = false })) h)
  unlock_sound = edit_sound m.pool false own_pool (λ t. cc)

  pub pool_set_sound : (pool : List ℕ) → HasRow h.pools pool → Keeps h (moved_to_pool m pool)
  pool_set_sound pool has = by (bytes_eq m.pool pool)
    where
      by : (b : Bool) → Keeps h (if b then Ok ([], about m) else edited m (record (raised m) { pool = pool }) [])
      by true = s
      by false = edit_sound pool m.locked has v.locked

-- ---- interfaces

-- the hall with other interfaces of the same machines
module _ (h : Hall) (s : IsSound h) where
  interfaces_sound : (interfaces : Rows texts Interface) → IsKeyed (record h { interfaces = interfaces })
      → ((mac : List ℕ) (i : Interface) → at interfaces mac ≡ Some i → HasRow h.machines i.machine)
      → ((id : ℕ) → HasRow h.machines id → 1 ≤ how_many (λ (i : Interface). i.machine == id) interfaces)
      → ((id : ℕ) → HasRow h.machines id → how_many (λ (i : Interface). i.machine == id) interfaces ≤ MAX_INTERFACES)
      → IsSound (record h { interfaces = interfaces })
  interfaces_sound interfaces keyed have some few = assumption

  -- an interface more of a machine that has fewer than the most
  pub interface_put_sound : (i : Interface) → at h.interfaces i.mac ≡ None → HasRow h.machines i.machine → how_many (λ (x : Interface). x.machine == i.machine) h.interfaces < MAX_INTERFACES → IsSound (written (write.PutInterface i) h)
  interface_put_sound i free has room =
      interfaces_sound (put i.mac i h.interfaces) (keyed-written (write.PutInterface i) h s.keyed)
      (each_put (λ x. HasRow h.machines x.machine) h.interfaces i.mac i has s.interface_machines) some few
    where
      counted : (id : ℕ) → how_many (λ (x : Interface). x.machine == id) (put i.mac i h.interfaces) ≡ how_many (λ (x : Interface). x.machine == id) h.interfaces + one_if (i.machine == id)
      counted id = how_many-new (λ (x : Interface). x.machine == id) h.interfaces i.mac i free

      some : (id : ℕ) → HasRow h.machines id → 1 ≤ how_many (λ (x : Interface). x.machine == id) (put i.mac i h.interfaces)
      some id is = omega (arith, counted id, s.some_interfaces id is)

      few : (id : ℕ) → HasRow h.machines id → how_many (λ (x : Interface). x.machine == id) (put i.mac i h.interfaces) ≤ MAX_INTERFACES
      few id is = by (i.machine == id) refl
        where
          by : (b : Bool) → (i.machine == id) ≡ b → how_many (λ (x : Interface). x.machine == id) (put i.mac i h.interfaces) ≤ MAX_INTERFACES
          by true t =
              let own = subst (λ n. how_many (λ (x : Interface). x.machine == n) h.interfaces < MAX_INTERFACES) (eqb-true i.machine id t) room in
              let one = ap one_if t in
              omega (arith, counted id, one, own)
          by false t = let none = ap one_if t in omega (arith, counted id, none, s.few_interfaces id is)

  -- an interface fewer of a machine that has another
  pub interface_gone_sound : (mac : List ℕ) (i : Interface) → at h.interfaces mac ≡ Some i → 1 < how_many (λ (x : Interface). x.machine == i.machine) h.interfaces → IsSound (written (write.InterfaceGone mac) h)
  interface_gone_sound mac i there more =
      interfaces_sound (gone mac h.interfaces) (keyed-written (write.InterfaceGone mac) h s.keyed)
      (λ other x is. s.interface_machines other x (gone_found h.interfaces mac other x is).1) some few
    where
      counted : (id : ℕ) → how_many (λ (x : Interface). x.machine == id) (gone mac h.interfaces) + one_if (i.machine == id) ≡ how_many (λ (x : Interface). x.machine == id) h.interfaces
      counted id =
          ap (λ o. how_many (λ (x : Interface). x.machine == id) (gone mac h.interfaces) + one_if (passes (λ (x : Interface). x.machine == id) o)) (sym there)
          ∙ how_many-gone (λ (x : Interface). x.machine == id) h.interfaces mac

      few : (id : ℕ) → HasRow h.machines id → how_many (λ (x : Interface). x.machine == id) (gone mac h.interfaces) ≤ MAX_INTERFACES
      few id is = omega (arith, counted id, s.few_interfaces id is)

      some : (id : ℕ) → HasRow h.machines id → 1 ≤ how_many (λ (x : Interface). x.machine == id) (gone mac h.interfaces)
      some id is = by (i.machine == id) refl
        where
          by : (b : Bool) → (i.machine == id) ≡ b → 1 ≤ how_many (λ (x : Interface). x.machine == id) (gone mac h.interfaces)
          by true t =
              let own = subst (λ n. 1 < how_many (λ (x : Interface). x.machine == n) h.interfaces) (eqb-true i.machine id t) more in
              let one = ap one_if t in
              omega (arith, counted id, one, own)
          by false t = let none = ap one_if t in omega (arith, counted id, none, s.some_interfaces id is)

-- ---- commands on interfaces

no_interface : (o : Option Interface) → is_some (option_map (λ i. i.machine) o) ≡ false → o ≡ None
no_interface None is = refl
no_interface (Some i) is = cc

interface_is : (o : Option Interface) (id : ℕ) → is_number (option_map (λ i. i.machine) o) id ≡ true → (i : Interface) × (o ≡ Some i) × (i.machine ≡ id)
interface_is None id is = cc
interface_is (Some i) id is = (i, refl, eqb-true i.machine id is)

module _ (h : Hall) (s : IsSound h) (in_second : h.schema ≡ second) (m : Machine) (was : at h.machines m.id ≡ Some m) (mac : List ℕ) where
  abbrev raised_hall : Hall
  raised_hall = written (machine_row m (raised m)) h

  counts : how_many (λ (x : Interface). x.machine == m.id) h.interfaces ≡ length (interfaces_of h m.id)
  counts = how_many-listed (λ (x : Interface). x.machine == m.id) h.interfaces

  pub add_interface_sound : IsAllowed (with_interfaces h m mac) m (on.AddInterface mac) → IsSound (written (write.PutInterface (record { mac = mac; machine = m.id })) raised_hall)
  add_interface_sound a =
      let taken = first_none (when (is_some (by_mac h mac)) cause.Taken) _ a.own in
      let full = first_none (when (nat_le MAX_INTERFACES (length (interfaces_of h m.id))) cause.Full) _ taken.1 in
      let room = leb-false MAX_INTERFACES (length (interfaces_of h m.id)) (when_none _ cause.Full full.0) in
      interface_put_sound raised_hall (raised_sound h s in_second m was) (record { mac = mac; machine = m.id })
      (no_interface (at h.interfaces mac) (when_none (is_some (by_mac h mac)) cause.Taken taken.0))
      (ap (λ o. is_some o) (at-put-same h.machines m.id (raised m)))
      (omega (arith, counts, room))

  pub remove_interface_sound : IsAllowed (with_interfaces h m mac) m (on.RemoveInterface mac) → IsSound (written (write.InterfaceGone mac) raised_hall)
  remove_interface_sound a =
      let it = interface_is (at h.interfaces mac) m.id (unless_none (is_number (by_mac h mac) m.id) cause.NoInterface a.found) in
      let last = first_none (when (nat_le (length (interfaces_of h m.id)) 1) cause.LastInterface) _ a.own in
      let more = leb-false (length (interfaces_of h m.id)) 1 (when_none _ cause.LastInterface last.0) in
      interface_gone_sound raised_hall (raised_sound h s in_second m was) mac it.0 it.1
      (subst (λ n. 1 < how_many (λ (x : Interface). x.machine == n) h.interfaces) (sym it.2) (omega (arith, counts, more)))

-- ---- each command

module _ (h : Hall) (s : IsSound h) (in_second : h.schema ≡ second) (o : Operator) (known : HasRow h.operators o.name) (moment : ℕ) where
  machine_keeps : (m : Machine) → at h.machines m.id ≡ Some m → (command : MachineCommand) → IsAllowed (machine_view h o m command) m command → Keeps h (machine_effect (machine_view h o m command) o m command moment)
  unfolding class_in
  machine_keeps m was (on.AddInterface mac) a = add_interface_sound h s in_second m was mac a
  machine_keeps m was (on.RemoveInterface mac) a = remove_interface_sound h s in_second m was mac a
  machine_keeps m was (on.SetPool pool) a = pool_set_sound h s in_second m was pool (unless_none (has_pool h pool) cause.NoPool a.found)
  machine_keeps m was (on.Commission tests) a =
      live_sound h s in_second m was o moment (on.Commission tests) act.Commission Commissioning purpose.Commission tests m.erase refl refl (λ back. refl) (λ v. refl) a.unlocked a.own
      (no_erasing h s in_second m was o moment act.Commission m.erase refl)
  machine_keeps m was on.Delete a = without_machine_sound h s m.id
  machine_keeps m was (on.Deploy image) a = deploy_sound h s in_second m was o moment image a
  machine_keeps m was (on.Release None) a =
      plain_sound h s in_second m was o moment (of_machine h m) (on.Release None) act.Release m.owner None refl refl refl refl a.unlocked (s.machine_owners m.id m was)
      (no_erasing h s in_second m was o moment act.Release None refl)
  machine_keeps m was (on.Release (Some erase)) a =
      live_sound h s in_second m was o moment (on.Release (Some erase)) act.ReleaseErasing DiskErasing purpose.Erase m.tests (Some erase) refl refl (λ back. refl) (λ v. refl) a.unlocked a.own
      (λ step leads keeps. refl)
  machine_keeps m was (on.Act does.Test) a =
      live_sound h s in_second m was o moment (on.Act does.Test) (act.Act does.Test) Testing purpose.Test m.tests m.erase refl refl (λ back. refl) (λ v. refl) a.unlocked a.own
      (no_erasing h s in_second m was o moment (act.Act does.Test) m.erase refl)
  machine_keeps m was (on.Act does.Rescue) a =
      live_sound h s in_second m was o moment (on.Act does.Rescue) (act.Act does.Rescue) EnteringRescue purpose.Rescue m.tests m.erase refl refl (λ back. refl) (λ v. refl) a.unlocked a.own
      (no_erasing h s in_second m was o moment (act.Act does.Rescue) m.erase refl)
  machine_keeps m was (on.Act does.Allocate) a =
      plain_sound h s in_second m was o moment (machine_view h o m (on.Act does.Allocate)) (on.Act does.Allocate) (act.Act does.Allocate) (Some o.name) m.erase refl refl refl refl a.unlocked
      (λ key its. given (HasRow h.operators) o.name key known its) (no_erasing h s in_second m was o moment (act.Act does.Allocate) m.erase refl)
  machine_keeps m was (on.Act does.Abort) a = abort_sound h s in_second m was o moment a.unlocked
  machine_keeps m was (on.Act does.Lock) a =
      lock_sound h s in_second m was (unless_none (is_deployed m.status) cause.WrongStatus (first_none (when (not (is_deployed m.status)) cause.WrongStatus) [] a.own).0)
  machine_keeps m was (on.Act does.Unlock) a = unlock_sound h s in_second m was
  machine_keeps m was (on.Act one) a =
      plain_sound h s in_second m was o moment (of_machine h m) (on.Act one) (act.Act one) m.owner m.erase refl refl refl refl a.unlocked (s.machine_owners m.id m was)
      (no_erasing h s in_second m was o moment (act.Act one) m.erase refl)

  -- ---- all commands

  effect_keeps : (command : HallCommand) → first_of (causes (command_view h o command) o command) ≡ None → Keeps h (effect (command_view h o command) o command moment)
  unfolding causes effect command_view
  effect_keeps (AddOperator name role digest) none =
      let taken = when_none (is_some (at h.operators name) || is_some (operator_with_digest h digest)) cause.Taken
      (first_none (when (is_some (at h.operators name) || is_some (operator_with_digest h digest)) cause.Taken) [] none).0 in
      add_operator_sound h s name role digest (or_parts (is_some (at h.operators name)) (is_some (operator_with_digest h digest)) taken).1
  effect_keeps (DisableOperator name) none = disable_sound h s name
  effect_keeps (AddPool pool) none = pool_sound h s (record { name = pool })
  effect_keeps (Grant pool name) none =
      let pools = first_none (when (not (has_pool h pool)) cause.NoPool) _ none in
      let operators = first_none (when (not (is_some (at h.operators name))) cause.NoOperator) _ pools.1 in
      member_sound h s (record { pool = pool; operator = name }) (unless_none (has_pool h pool) cause.NoPool pools.0) (unless_none (is_some (at h.operators name)) cause.NoOperator operators.0)
  effect_keeps (AddImage image) none = image_sound h s image
  effect_keeps (DeleteImage image) none =
      let images = first_none (when (not (is_some (image_arch h image))) cause.NoImage) _ none in
      let used = first_none (when (is_image_used h image) cause.InUse) [] images.1 in
      delete_image_sound h s image (when_none (is_image_used h image) cause.InUse used.0)
  effect_keeps (SetLive image) none = set_live_sound h s image
  effect_keeps (AddMachine mac arch pool uuid) none = add_machine_sound h mac arch pool uuid (command_view h o (AddMachine mac arch pool uuid)) s refl none
  effect_keeps (OnMachine id version command) none =
      machine_cases h s.keyed.machines o id version command moment (Keeps h) tt (λ m its was a may. machine_keeps m was command a) none

-- ---- the receipt

-- the rows of a command leave the hall sound
pub command_keeps : (h : Hall) → IsSound h → h.schema ≡ second → (bearer : Option (List ℕ)) (key : List ℕ) (command : HallCommand) (moment : ℕ) → Keeps h (command_decision h bearer key command moment)
command_keeps h s in_second bearer key command moment =
    command_cases h bearer key command moment (Keeps h) (λ refusal. tt) (λ o r sent there same. s)
    (λ o sent enabled free none.
    let known = ap (λ x. is_some x) (sender_is h s.keyed.operators bearer o sent) in
    with_its_receipt o known (effect (command_view h o command) o command moment) (effect_keeps h s in_second o known moment command none))
  where
    with_its_receipt : (o : Operator) → HasRow h.operators o.name → (d : Effect) → Keeps h d → Keeps h (with_receipt o key command d)
    with_its_receipt o known (Err refusal) keeps = tt
    with_its_receipt o known (Ok d) keeps =
        let r = receipt_of o key command d.1 in
        subst (λ x. IsSound x) (sym (applied_append d.0 (write.PutReceipt r ∷ []) h)) (receipt_sound (applied d.0 h) keeps r (operators_stay d.0 h o.name known))
