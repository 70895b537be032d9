-- A hall stays sound without a machine: its interfaces, boots and orders go with it.
use Rattle.std.{specs.Prelude.{◌≡◌, ◌≢◌, ◌≤◌, ◌==◌, not, ℕ, true, List, Some, is_some}, proofs.{Common.{sym, ap, arith, ◌∙◌}, lemmas.Bool.{both_ways, eqb-true, eq-eqb, ne_eqb}}}
use Rattle.desk_command.specs.Prelude.{how_many-split, none_pass, Hall, without_machine, keyed-written, Keys, Rows, at, how_many, rows_where, size, at-gone-other, gone_found, size-gone, where_found, where_kept, Boot, MachineGone, Waiting, Interface, Machine, Order, HasRow, IsSoundMachine, IsSound, some_of, sound_among, view_of}

not_eq : (a b : ℕ) → not (a == b) ≡ true → a ≢ b
not_eq a b t e = let same = ap not (eq-eqb a b e) in both_ways (not (a == b)) same t

apart_test : (a b : ℕ) → a ≢ b → not (a == b) ≡ true
apart_test a b e = ap not (ne_eqb a b e)

-- the rows of other machines
module _ {K X : Type 0} {keys : Keys K} (machine_of : X → ℕ) (id : ℕ) (rows : Rows keys X) where
  left_of : (key : K) (x : X) → at (rows_where (λ y. not (machine_of y == id)) rows) key ≡ Some x → (at rows key ≡ Some x) × (machine_of x ≢ id)
  left_of key x is = let found = where_found (λ y. not (machine_of y == id)) rows key x is in (found.0, not_eq (machine_of x) id found.1)

  stays_of : (key : K) (x : X) → at rows key ≡ Some x → machine_of x ≢ id → at (rows_where (λ y. not (machine_of y == id)) rows) key ≡ Some x
  stays_of key x is apart = where_kept (λ y. not (machine_of y == id)) rows key x is (apart_test (machine_of x) id apart)

module _ (h : Hall) (s : IsSound h) (id : ℕ) where
  abbrev after : Hall
  after = without_machine id h

  has : (q : ℕ) → q ≢ id → HasRow h.machines q → HasRow after.machines q
  has q apart is = ap (λ o. is_some o) (at-gone-other h.machines id q apart) ∙ is

  had : (q : ℕ) → HasRow after.machines q → (q ≢ id) × HasRow h.machines q
  had q is = let x = some_of (at after.machines q) is in let found = gone_found h.machines id q x.0 x.1 in (found.0, ap (λ o. is_some o) found.1)

  interface_left : (mac : List ℕ) (i : Interface) → at after.interfaces mac ≡ Some i → (at h.interfaces mac ≡ Some i) × (i.machine ≢ id)
  interface_left mac i is = left_of (λ (x : Interface). x.machine) id h.interfaces mac i is

  boot_left : (n : ℕ) (b : Boot) → at after.boots n ≡ Some b → (at h.boots n ≡ Some b) × (b.machine ≢ id)
  boot_left n b is = left_of (λ (x : Boot). x.machine) id h.boots n b is

  order_left : (n : ℕ) (o : Order) → at after.orders n ≡ Some o → (at h.orders n ≡ Some o) × (o.machine ≢ id)
  order_left n o is = left_of (λ (x : Order). x.machine) id h.orders n o is

  machine_after : (q : ℕ) (m : Machine) → at after.machines q ≡ Some m → IsSoundMachine (view_of after m)
  machine_after q m is =
      let found = gone_found h.machines id q m is in
      let apart : m.id ≢ id = λ same. found.0 (sym (s.keyed.machines q m found.1) ∙ same) in
      sound_among h m after.boots after.orders h.last
      (λ n b there its. stays_of (λ (x : Boot). x.machine) id h.boots n b there (λ e. apart (sym its ∙ e)))
      (λ n o there its. stays_of (λ (x : Order). x.machine) id h.orders n o there (λ e. apart (sym its ∙ e)))
      (s.machines q m found.1)

  -- each other machine has as many interfaces as before
  counted : (q : ℕ) → q ≢ id → how_many (λ (i : Interface). i.machine == q) after.interfaces ≡ how_many (λ (i : Interface). i.machine == q) h.interfaces
  counted q apart =
      let split = how_many-split (λ (i : Interface). i.machine == q) (λ (i : Interface). i.machine == id) h.interfaces in
      let none = none_pass (λ (i : Interface). i.machine == q) (rows_where (λ (i : Interface). i.machine == id) h.interfaces)
      (λ mac i is. ne_eqb i.machine q (λ e. apart (sym e ∙ eqb-true i.machine id (where_found (λ (x : Interface). x.machine == id) h.interfaces mac i is).1))) in
      omega (arith, split, none)

  fewer : size after.machines ≤ size h.machines
  fewer = let e = size-gone h.machines id in omega (arith, e)

  waiting_after : (n : ℕ) (o : Order) → at after.orders n ≡ Some o → o.stage ≡ Waiting → (m : Machine) × (at after.machines o.machine ≡ Some m) × (m.waiting ≡ Some n)
  waiting_after n o is waits =
      let left = order_left n o is in
      let m = s.waiting n o left.0 waits in
      (m.0, at-gone-other h.machines id o.machine left.1 ∙ m.1, m.2)

  some : (q : ℕ) → HasRow after.machines q → 1 ≤ how_many (λ (i : Interface). i.machine == q) after.interfaces
  some q is = let before = had q is in omega (arith, counted q before.0, s.some_interfaces q before.1)

  last_boot_after : (n : ℕ) → HasRow after.boots n → n ≤ h.last.boot
  last_boot_after n is = let b = some_of (at after.boots n) is in s.last_boot n (ap (λ o. is_some o) (boot_left n b.0 b.1).0)

  last_order_after : (n : ℕ) → HasRow after.orders n → n ≤ h.last.order
  last_order_after n is = let b = some_of (at after.orders n) is in s.last_order n (ap (λ o. is_some o) (order_left n b.0 b.1).0)

  pub without_machine_sound : IsSound after
  without_machine_sound = record {
    keyed = keyed-written (MachineGone id) h s.keyed;
    member_pools = s.member_pools;
    member_operators = s.member_operators;
    live_images = s.live_images;
    machine_pools = λ q m is. s.machine_pools q m (gone_found h.machines id q m is).1;
    machine_owners = λ q m is. s.machine_owners q m (gone_found h.machines id q m is).1;
    machine_images = λ q m is. s.machine_images q m (gone_found h.machines id q m is).1;
    interface_machines = λ mac i is. let left = interface_left mac i is in has i.machine left.1 (s.interface_machines mac i left.0);
    boot_machines = λ n b is. let left = boot_left n b is in has b.machine left.1 (s.boot_machines n b left.0);
    order_machines = λ n o is. let left = order_left n o is in has o.machine left.1 (s.order_machines n o left.0);
    receipt_operators = s.receipt_operators;
    default = s.default;
    uuids = λ q other a b uuid is_a is_b. s.uuids q other a b uuid (gone_found h.machines id q a is_a).1 (gone_found h.machines id other b is_b).1;
    digests = s.digests;
    few_machines = omega (arith, fewer, s.few_machines);
    some_interfaces = some;
    few_interfaces = λ q is. let before = had q is in omega (arith, counted q before.0, s.few_interfaces q before.1);
    machines = machine_after;
    erasing = λ q m is. s.erasing q m (gone_found h.machines id q m is).1;
    waiting = waiting_after;
    last_machine = λ q is. s.last_machine q (had q is).1;
    last_boot = last_boot_after;
    last_order = last_order_after;
  }
