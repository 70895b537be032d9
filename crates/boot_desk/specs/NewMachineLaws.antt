-- A sound hall stays sound with a new machine and its interface, as one that a frame enlists.
use Rattle.std.{specs.Prelude.{◌≡◌, ◌≢◌, ◌<◌, ◌≤◌, ◌⊎◌, ◌==◌, ℕ, ◌+◌, nat_le, not, Bool, true, false, List, [], ◌∷◌, Option, Some, None, is_some, option_map, if◌then◌else◌}, proofs.{Common.{refl, sym, ap, subst, inl, inr, arith, ◌∙◌}, lemmas.{Bool.{both_ways, eq-eqb, leb-false, ne_eqb}, Option.none-some, Slice.Eq.bytes_eq-Decides}}}
use Rattle.pxe_vendor.specs.declared.{arch.Arch.Arch, clients.Client.Client}
use Rattle.hall_types.specs.{Number.next_number, Rows.{at, put, one_if, size, how_many}, RowLaws.{at-put-same, at-put-other, put_cases, size-put}, KeyedLaws.keyed-applied, CountLaws.{how_many-new, none_pass}, Hall.{Schema, applied, default_pool, first, second, Hall}, Lookup.{HasRow, HasRowIf, has_uuid}, LookupLaws.none_listed, declared.{change.RowWrite.TheVariants.{PutInterface, PutMachine, PutNumbers}, machine.{Interface.Interface, Machine.Machine, TheConstants.{MAX_MACHINES, MAX_INTERFACES}}, port.Port.Port}, Machine.blank_machine}
use Rattle.life_cycle.specs.Entering.{limit_of, is_rescue, keeps_erase}
use Rattle.boot_desk.specs.{declared.frames.{Decision.{Decision, TheVariants.{Loader, ScriptUrl, Enlist, Silent}}, FrameView.FrameView, Silence.TheVariants.{WrongPort, EchoTooLong, KnownUuid, Full}}, Class.class_in, FrameEvent.{enlisted, enlisted_as, for_address, for_unknown, frame_decision, frame_view, if_number, is_echo_long, is_port_of, is_uuid_of_other, machine_with, new_machine}, Views.view_of, Sound.{KeepsErase, IsSoundMachine, IsSound}, SoundLaws.{some_of, has-put, each_put, sound_among}, EntryLaws.next_is}

-- a machine that is new to a hall, and the address of its interface
pub record IsNew (h : Hall) (mac : List ℕ) (new : Machine) : Type 0 where
  -- it has the next number, and there is room for it
  pub next : next_number h.last.machine ≡ Some new.id
  pub room : size h.machines < MAX_MACHINES
  -- no interface has the address, and no machine its UUID
  pub free : at h.interfaces mac ≡ None
  pub uuid : machine_with h new.uuid ≡ None
  -- its pool is recorded, and its owner and its image if it has them
  pub pool : HasRow h.pools new.pool
  pub owner : HasRowIf h.operators new.owner
  pub image : HasRowIf h.images new.image
  -- it is sound with the rows that there are, and keeps how its disks are erased as its status has it
  pub machine : IsSoundMachine (view_of h new)
  pub erase : KeepsErase h.schema new

module _ (h : Hall) (mac : List ℕ) (new : Machine) (s : IsSound h) (n : IsNew h mac new) where
  abbrev its : Interface
  its = record { mac = mac; machine = new.id }

  abbrev after : Hall
  after = record h { machines = put new.id new h.machines; interfaces = put mac its h.interfaces; last = record h.last { machine = new.id } }

  above : new.id ≡ h.last.machine + 1
  above = next_is h.last.machine new.id n.next

  unused : (q : ℕ) → HasRow h.machines q → q ≢ new.id
  unused q is same = omega (arith, above, same, s.last_machine q is)

  has : (q : ℕ) → HasRow h.machines q → HasRow after.machines q
  has q is = has-put h.machines new.id new q is

  -- a machine is the new one or was there before
  cases : (q : ℕ) → HasRow after.machines q → (q ≡ new.id) ⊎ ((q ≢ new.id) × HasRow h.machines q)
  cases q is = let x = some_of (at after.machines q) is in elim (put_cases h.machines new.id new q x.0 x.1) [ inl w ↦ inl w.0 | inr w ↦ inr (w.0, ap (λ o. is_some o) w.1) ]

  -- no other machine has the new machine's UUID
  apart : (q : ℕ) (x : Machine) (uuid : List ℕ) → at h.machines q ≡ Some x → new.uuid ≡ Some uuid → x.uuid ≡ Some uuid → ⊥
  apart q x uuid is own other =
      both_ways (has_uuid x.uuid uuid) (none_listed h.machines (λ (y : Machine). has_uuid y.uuid uuid) q x (ap (machine_with h) (sym own) ∙ n.uuid) is)
      (ap (λ o. has_uuid o uuid) other ∙ (bytes_eq-Decides uuid uuid).1 refl)

  uuids : (q other : ℕ) (a b : Machine) (uuid : List ℕ) → at after.machines q ≡ Some a → at after.machines other ≡ Some b → a.uuid ≡ Some uuid → b.uuid ≡ Some uuid → q ≡ other
  uuids q other a b uuid is_a is_b of_a of_b = elim (put_cases h.machines new.id new q a is_a) [
    | inl w ↦ elim (put_cases h.machines new.id new other b is_b) [
      | inl z ↦ w.0 ∙ sym z.0
      | inr z ↦ absurd (apart other b uuid z.1 (ap (λ y. y.uuid) (sym w.1) ∙ of_a) of_b)
    ]
    | inr w ↦ elim (put_cases h.machines new.id new other b is_b) [
      | inl z ↦ absurd (apart q a uuid w.1 (ap (λ y. y.uuid) (sym z.1) ∙ of_b) of_a)
      | inr z ↦ s.uuids q other a b uuid w.1 z.1 of_a of_b
    ]
  ]

  -- the new machine has one interface, each other as many as before
  counts : (q : ℕ) → HasRow after.machines q → (1 ≤ how_many (λ (i : Interface). i.machine == q) after.interfaces) × (how_many (λ (i : Interface). i.machine == q) after.interfaces ≤ MAX_INTERFACES)
  counts q is =
      let all = how_many-new (λ (i : Interface). i.machine == q) h.interfaces mac its n.free in
      elim (cases q is) [
        | inl same ↦
            let one = ap one_if (eq-eqb new.id q (sym same)) in
            let none = none_pass (λ (i : Interface). i.machine == q) h.interfaces (λ other i there. ne_eqb i.machine q (λ e. unused i.machine (s.interface_machines other i there) (e ∙ same))) in
            (omega arith, omega arith)
        | inr w ↦ let zero = ap one_if (ne_eqb new.id q (λ e. w.0 (sym e))) in (omega (arith, s.some_interfaces q w.1), omega (arith, s.few_interfaces q w.1))
      ]

  -- the hall with both is sound
  pub new_machine_sound : IsSound after
  new_machine_sound = record {
    keyed = keyed-applied (PutMachine new None ∷ PutInterface its ∷ PutNumbers (record h.last { machine = new.id }) ∷ []) h s.keyed;
    member_pools = s.member_pools;
    member_operators = s.member_operators;
    live_images = s.live_images;
    machine_pools = each_put (λ x. HasRow h.pools x.pool) h.machines new.id new n.pool s.machine_pools;
    machine_owners = each_put (λ x. HasRowIf h.operators x.owner) h.machines new.id new n.owner s.machine_owners;
    machine_images = each_put (λ x. HasRowIf h.images x.image) h.machines new.id new n.image s.machine_images;
    interface_machines =
        each_put (λ i. HasRow after.machines i.machine) h.interfaces mac its (ap (λ o. is_some o) (at-put-same h.machines new.id new))
        (λ other i is. has i.machine (s.interface_machines other i is));
    boot_machines = λ number b is. has b.machine (s.boot_machines number b is);
    order_machines = λ number o is. has o.machine (s.order_machines number o is);
    receipt_operators = s.receipt_operators;
    default = s.default;
    uuids = uuids;
    digests = s.digests;
    few_machines = omega (arith, size-put h.machines new.id new, n.room);
    some_interfaces = λ q is. (counts q is).0;
    few_interfaces = λ q is. (counts q is).1;
    machines = λ q x is.
        sound_among h x h.boots h.orders after.last (λ number b there its. there) (λ number o there its. there)
        (each_put (λ y. IsSoundMachine (view_of h y)) h.machines new.id new n.machine s.machines q x is);
    erasing = each_put (λ x. KeepsErase h.schema x) h.machines new.id new n.erase s.erasing;
    waiting = λ number o is waits.
        let x = s.waiting number o is waits in
        (x.0, at-put-other h.machines new.id new o.machine (unused o.machine (s.order_machines number o is)) ∙ x.1, x.2);
    last_machine = λ q is. elim (cases q is) [ inl same ↦ omega (arith, same) | inr w ↦ omega (arith, above, s.last_machine q w.1) ];
    last_boot = s.last_boot;
    last_order = s.last_order;
  }

-- ---- a machine of which nothing else is known

module _ (h : Hall) (id : ℕ) (arch : Arch) (pool : List ℕ) (uuid : Option (List ℕ)) where
  blank_sound : IsSoundMachine (view_of h (blank_machine id arch pool uuid))
  unfolding class_in limit_of is_rescue
  blank_sound = record {
    boot = λ number is. absurd (none-some number is);
    order = λ number is. absurd (none-some number is);
    deployed = λ is. refl;
    boots = omega arith;
    rescue = λ is. refl;
    locked = λ is. cc;
    deadline = refl;
    back = refl;
    remembered = refl;
    image = λ p is. cc;
  }

  blank_erase : (schema : Schema) → KeepsErase schema (blank_machine id arch pool uuid)
  unfolding keeps_erase
  blank_erase first = refl
  blank_erase second = refl

  -- such a machine is new to a hall if its number, its address and its UUID are
  pub blank_is_new : (mac : List ℕ) → next_number h.last.machine ≡ Some id → size h.machines < MAX_MACHINES → at h.interfaces mac ≡ None → machine_with h uuid ≡ None → HasRow h.pools pool
      → IsNew h mac (blank_machine id arch pool uuid)
  blank_is_new mac next room free other has = record {
    next = next;
    room = room;
    free = free;
    uuid = other;
    pool = has;
    owner = λ key is. absurd (none-some key is);
    image = λ key is. absurd (none-some key is);
    machine = blank_sound;
    erase = blank_erase h.schema;
  }

-- ---- a machine that a frame enlists

none_mapped : {X Y : Type 0} (f : X → Y) (o : Option X) → option_map f o ≡ None → o ≡ None
none_mapped f None is = refl
none_mapped f (Some x) is = cc

-- where the outcome isn't the first choice's, the test fails and it is the other's
otherwise : (b : Bool) (x y z : Decision) → (x ≡ z → ⊥) → (if b then x else y) ≡ z → (b ≡ false) × (y ≡ z)
otherwise true x y z apart is = absurd (apart is)
otherwise false x y z apart is = (refl, is)

-- a machine that is enlisted is new to the hall
pub enlists : (h : Hall) (client : Client) (port : Port) → IsSound h → frame_decision (frame_view h client) port client ≡ Enlist → (id : ℕ) × IsNew h client.mac (new_machine id client)
unfolding frame_decision
enlists h client port s is =
    let port_fits = otherwise (not (is_port_of client.kind port)) (Silent WrongPort) _ Enlist (λ e. cc) is in
    let short_echo = otherwise (is_echo_long client.echo97) (Silent EchoTooLong) _ Enlist (λ e. cc) port_fits.1 in
    let own_uuid = otherwise (is_uuid_of_other u.by_uuid u.by_mac) (Silent KnownUuid) _ Enlist (λ e. cc) short_echo.1 in
    by_mac u.by_mac refl own_uuid
  where
    u : FrameView
    u = frame_view h client

    by_number : u.by_mac ≡ None → u.by_uuid ≡ None → size h.machines < MAX_MACHINES → (n : Option ℕ) → next_number h.last.machine ≡ n → if_number n ≡ Enlist → (id : ℕ) × IsNew h client.mac (new_machine id client)
    by_number mac uuid room None next is = cc
    by_number mac uuid room (Some id) next is =
        let free = none_mapped (λ i. i.machine) (at h.interfaces client.mac) mac in
        let apart = none_mapped (λ m. m.id) (machine_with h client.uuid) uuid in
        (id, blank_is_new h id client.arch default_pool client.uuid client.mac next room free apart s.default)

    by_uuid : (o : Option ℕ) → u.by_uuid ≡ o → u.by_mac ≡ None → is_uuid_of_other o None ≡ false → for_unknown u ≡ Enlist → (id : ℕ) × IsNew h client.mac (new_machine id client)
    by_uuid (Some id) uuid mac other is = cc
    by_uuid None uuid mac other is =
        let room = otherwise (nat_le MAX_MACHINES (size h.machines)) (Silent Full) _ Enlist (λ e. cc) is in
        by_number mac uuid (leb-false MAX_MACHINES (size h.machines) room.0) (next_number h.last.machine) refl room.1

    no_file : (ipxe : Bool) → (if ipxe then ScriptUrl else Loader) ≡ Enlist → ⊥
    no_file true is = cc
    no_file false is = cc

    by_mac : (o : Option ℕ) → u.by_mac ≡ o → (is_uuid_of_other u.by_uuid o ≡ false) × (for_address o u client ≡ Enlist) → (id : ℕ) × IsNew h client.mac (new_machine id client)
    by_mac None mac other = by_uuid u.by_uuid refl mac other.0 other.1
    by_mac (Some id) mac other = absurd (no_file client.ipxe other.1)

-- an unknown client's machine leaves the hall sound
pub enlisted_sound : (h : Hall) (client : Client) (port : Port) → IsSound h → frame_decision (frame_view h client) port client ≡ Enlist → IsSound (applied (enlisted client h.last) h)
enlisted_sound h client port s is = by (enlists h client port s is)
  where
    by : (id : ℕ) × IsNew h client.mac (new_machine id client) → IsSound (applied (enlisted client h.last) h)
    by found =
        subst (λ n. IsSound (applied (enlisted_as n client h.last) h)) (sym found.1.next) (new_machine_sound h client.mac (new_machine found.0 client) s found.1)
