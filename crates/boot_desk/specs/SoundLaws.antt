-- A hall stays sound if the rows of only one machine change, and are as they have to be afterwards.
use Rattle.std.{specs.Prelude.{◌≡◌, ◌≢◌, ◌≤◌, ◌⊎◌, ◌==◌, ℕ, Bool, true, false, List, [], ◌∷◌, Option, Some, None, is_some, IsSome, IsTrue, if◌then◌else◌}, proofs.{Common.{refl, sym, ap, subst, inl, inr, arith, ◌∙◌}, lemmas.Bool.{eqb-true, eqb-false}}}
use Rattle.hall_types.specs.{Rows.{Keys, numbers, Rows, at, put, size, one_if, same_key}, RowLaws.{at-put, at-put-same, at-put-other, put_cases, size-put}, Hall.{Schema, first, second, Hall, applied, written}, Keyed.{StandUnder, IsKeyed}, KeyedLaws.under-put, declared.{boot.{Boot.Boot, TheConstants.MAX_BOOTS}, change.RowWrite.RowWrite, kinds.{OrderStage.TheVariants.Waiting, Purpose.Purpose, Stage.TheVariants.{Offered, Started}}, machine.Machine.Machine, number.Numbers.Numbers, order.Order.Order, status.Status.TheVariants.{Deployed, Rescue}}, Lookup.{HasRow, HasRowIf}}
use Rattle.hall_types.specs.declared.change.RowWrite.TheVariants as write
use Rattle.hall_types.specs.declared.kinds.Purpose.TheVariants as purpose
use Rattle.boot_desk.specs.{declared.{class.ScriptClass.TheVariants.Work, views.BootView.BootView}, Class.class_of, Fetch.image_for, Views.{row_at, view_of}, Sound.{KeepsErase, IsSoundMachine, IsSound}}

pub some_is : {X : Type 0} (x y : X) → Some x ≡ Some y → x ≡ y
some_is x y e = cc

-- the value of an option that has one
pub some_of : {X : Type 0} (o : Option X) → IsSome o → (x : X) × (o ≡ Some x)
some_of None is = cc
some_of (Some x) is = (x, refl)

-- ---- the rows of one machine

-- Only the rows of one machine differ. They stand under their numbers, none of which is above the last.
pub record OwnRows {X : Type 0} (number_of machine_of : X → ℕ) (id last : ℕ) (before after : Rows numbers X) : Type 0 where
  pub back : (n : ℕ) (x : X) → at after n ≡ Some x → ((machine_of x ≢ id) × (at before n ≡ Some x)) ⊎ ((number_of x ≡ n) × (n ≤ last) × (machine_of x ≡ id))
  pub others : (n : ℕ) (x : X) → at before n ≡ Some x → machine_of x ≢ id → at after n ≡ Some x

module _ {X : Type 0} (number_of machine_of : X → ℕ) (id : ℕ) (before : Rows numbers X) where
  -- rows that didn't change
  pub own_same : (last : ℕ) → StandUnder number_of before → ((n : ℕ) → HasRow before n → n ≤ last) → OwnRows number_of machine_of id last before before
  own_same last under below = record { back = back; others = λ n x is apart. is }
    where
      back : (n : ℕ) (x : X) → at before n ≡ Some x → ((machine_of x ≢ id) × (at before n ≡ Some x)) ⊎ ((number_of x ≡ n) × (n ≤ last) × (machine_of x ≡ id))
      back n x is = by (machine_of x == id) refl
        where
          by : (b : Bool) → (machine_of x == id) ≡ b → ((machine_of x ≢ id) × (at before n ≡ Some x)) ⊎ ((number_of x ≡ n) × (n ≤ last) × (machine_of x ≡ id))
          by true t = inr (under n x is, below n (ap (λ o. is_some o) is), eqb-true (machine_of x) id t)
          by false t = inl (eqb-false (machine_of x) id t, is)

  -- none is above the last number
  own_last : (last more : ℕ) (after : Rows numbers X) → OwnRows number_of machine_of id more before after → ((n : ℕ) → HasRow before n → n ≤ last) → last ≤ more → (n : ℕ) → HasRow after n → n ≤ more
  own_last last more after own below le n is = let x = some_of (at after n) is in elim (own.back n x.0 x.1) [
    | inl w ↦ omega (arith, below n (ap (λ o. is_some o) w.1), le)
    | inr w ↦ w.1
  ]

  -- a row of the machine is put in the place of none, or of one of its own; the last number may be a higher one then
  pub own_put : (last more : ℕ) (after : Rows numbers X) (row : X) → OwnRows number_of machine_of id last before after → last ≤ more → machine_of row ≡ id → number_of row ≤ more
      → ((x : X) → at before (number_of row) ≡ Some x → machine_of x ≡ id) → OwnRows number_of machine_of id more before (put (number_of row) row after)
  own_put last more after row own le its few free = record { back = back; others = others }
    where
      back : (n : ℕ) (x : X) → at (put (number_of row) row after) n ≡ Some x → ((machine_of x ≢ id) × (at before n ≡ Some x)) ⊎ ((number_of x ≡ n) × (n ≤ more) × (machine_of x ≡ id))
      back n x is = elim (put_cases after (number_of row) row n x is) [
        | inl w ↦ inr (ap number_of w.1 ∙ sym w.0, omega (arith, w.0, few), ap machine_of w.1 ∙ its)
        | inr w ↦ elim (own.back n x w.1) [ inl y ↦ inl y | inr y ↦ inr (y.0, omega (arith, y.1, le), y.2) ]
      ]

      others : (n : ℕ) (x : X) → at before n ≡ Some x → machine_of x ≢ id → at (put (number_of row) row after) n ≡ Some x
      others n x is apart =
          at-put-other after (number_of row) row n (λ same. apart (free x (ap (at before) (sym same) ∙ is))) ∙ own.others n x is apart

-- each order of the machine that waits is this one
abbrev pub WaitsFor : ℕ → Option ℕ → Rows numbers Order → Type 0
WaitsFor id waiting orders = (n : ℕ) (o : Order) → at orders n ≡ Some o → o.machine ≡ id → o.stage ≡ Waiting → waiting ≡ Some n

-- of the boots only one machine's differ
abbrev pub OwnBoots : Hall → ℕ → ℕ → Rows numbers Boot → Type 0
OwnBoots h id last boots = OwnRows (λ (b : Boot). b.number) (λ (b : Boot). b.machine) id last h.boots boots

-- of the orders only one machine's differ
abbrev pub OwnOrders : Hall → ℕ → ℕ → Rows numbers Order → Type 0
OwnOrders h id last orders = OwnRows (λ (o : Order). o.number) (λ (o : Order). o.machine) id last h.orders orders

-- ---- a hall in which one machine has moved

-- the hall with this row of a machine, these boots and orders, and these last numbers
abbrev pub moved_to : Hall → Machine → Rows numbers Boot → Rows numbers Order → Numbers → Hall
moved_to h m boots orders last = record h { machines = put m.id m h.machines; boots = boots; orders = orders; last = last }

-- One machine has moved: its row, its boots and orders and the last numbers may differ, and are as a sound hall needs
-- them.
pub record Moved (h : Hall) (m m' : Machine) (boots : Rows numbers Boot) (orders : Rows numbers Order) (last : Numbers) : Type 0 where
  pub was : at h.machines m.id ≡ Some m
  pub id : m'.id ≡ m.id
  pub uuid : m'.uuid ≡ m.uuid
  pub pool : HasRow h.pools m'.pool
  pub owner : HasRowIf h.operators m'.owner
  pub image : HasRowIf h.images m'.image
  pub own_boots : OwnBoots h m.id last.boot boots
  pub own_orders : OwnOrders h m.id last.order orders
  pub waits : WaitsFor m.id m'.waiting orders
  pub last_machine : last.machine ≡ h.last.machine
  pub last_boot : h.last.boot ≤ last.boot
  pub last_order : h.last.order ≤ last.order
  pub machine : IsSoundMachine (view_of (moved_to h m' boots orders last) m')
  pub erase : KeepsErase h.schema m'

-- a key that has a row has one after each put
pub has-put : {K X : Type 0} {keys : Keys K} (rows : Rows keys X) (key : K) (row : X) (other : K) → HasRow rows other → HasRow (put key row rows) other
has-put {keys = keys} rows key row other has = ap (λ o. is_some o) (at-put rows key row other) ∙ by (same_key keys other key)
  where
    by : (b : Bool) → is_some (if b then Some row else at rows other) ≡ true
    by true = refl
    by false = has

-- no row takes an operator away
operators_written : (w : RowWrite) (h : Hall) (name : List ℕ) → HasRow h.operators name → HasRow (written w h).operators name
operators_written (write.PutOperator o) h name has = has-put h.operators o.name o name has
operators_written other h name has = has

pub operators_stay : (rows : List RowWrite) (h : Hall) (name : List ℕ) → HasRow h.operators name → HasRow (applied rows h).operators name
operators_stay [] h name has = has
operators_stay (w ∷ ws) h name has = operators_stay ws (written w h) name (operators_written w h name has)

module _ {K X : Type 0} {keys : Keys K} where
  -- what holds of the row that is put, and of each row before, holds of each row
  pub each_put : (P : X → Type 0) (rows : Rows keys X) (key : K) (row : X) → P row → ((other : K) (x : X) → at rows other ≡ Some x → P x)
      → (other : K) (x : X) → at (put key row rows) other ≡ Some x → P x
  each_put P rows key row new old other x is = elim (put_cases rows key row other x is) [ inl w ↦ subst P (sym w.1) new | inr w ↦ old other x w.1 ]

-- which image a machine works with follows from its own image and the live image
pub image_for-same : (p : Purpose) (v w : BootView) → v.image ≡ w.image → v.live ≡ w.live → image_for p v ≡ image_for p w
image_for-same purpose.Deploy v w image live = image
image_for-same other v w image live = live

-- a machine stays sound among other boots and orders, if its own are among them, and with other last numbers
pub sound_among : (h : Hall) (m : Machine) (boots : Rows numbers Boot) (orders : Rows numbers Order) (last : Numbers)
    → ((n : ℕ) (b : Boot) → at h.boots n ≡ Some b → b.machine ≡ m.id → at boots n ≡ Some b) → ((n : ℕ) (o : Order) → at h.orders n ≡ Some o → o.machine ≡ m.id → at orders n ≡ Some o)
    → IsSoundMachine (view_of h m) → IsSoundMachine (view_of (record h { boots = boots; orders = orders; last = last }) m)
sound_among h m boots orders last boots_stay orders_stay v = record {
  boot = own_boot;
  order = own_order;
  deployed = v.deployed;
  boots = v.boots;
  rescue = v.rescue;
  locked = v.locked;
  deadline = v.deadline;
  back = v.back;
  remembered = v.remembered;
  image = λ p works. ap (λ o. is_some o) (image_for-same p (view_of (record h { boots = boots; orders = orders; last = last }) m) (view_of h m) refl refl) ∙ v.image p works;
}
  where
    own_boot : (number : ℕ) → m.boot ≡ Some number → (b : Boot) × (row_at boots m.boot ≡ Some b) × (b.machine ≡ m.id) × ((b.stage ≡ Offered) ⊎ (b.stage ≡ Started)) × (class_of m ≡ Work b.purpose)
    own_boot number is =
        let b = v.boot number is in
        (b.0, ap (row_at boots) is ∙ boots_stay number b.0 (ap (row_at h.boots) (sym is) ∙ b.1) b.2, b.2, b.3, b.4)

    own_order : (number : ℕ) → m.waiting ≡ Some number → (o : Order) × (row_at orders m.waiting ≡ Some o) × (o.machine ≡ m.id) × (o.stage ≡ Waiting)
    own_order number is =
        let o = v.order number is in
        (o.0, ap (row_at orders) is ∙ orders_stay number o.0 (ap (row_at h.orders) (sym is) ∙ o.1) o.2, o.2, o.3)

module _ (h : Hall) (m m' : Machine) (boots : Rows numbers Boot) (orders : Rows numbers Order) (last : Numbers) (s : IsSound h) (moved : Moved h m m' boots orders last) where
  abbrev after : Hall
  after = moved_to h m' boots orders last

  -- a row of a machine is the one that was written or another machine's
  cases : (id : ℕ) (x : Machine) → at after.machines id ≡ Some x → ((id ≡ m.id) × (x ≡ m')) ⊎ ((id ≢ m.id) × (at h.machines id ≡ Some x))
  cases id x is = elim (put_cases h.machines m'.id m' id x is) [ inl w ↦ inl (w.0 ∙ moved.id, w.1) | inr w ↦ inr (λ e. w.0 (e ∙ sym moved.id), w.1) ]

  there : at after.machines m.id ≡ Some m'
  there = ap (at after.machines) (sym moved.id) ∙ at-put-same h.machines m'.id m'

  stays : (id : ℕ) (x : Machine) → at h.machines id ≡ Some x → id ≢ m.id → at after.machines id ≡ Some x
  stays id x is apart = at-put-other h.machines m'.id m' id (λ e. apart (e ∙ moved.id)) ∙ is

  has : (id : ℕ) → HasRow h.machines id → HasRow after.machines id
  has id is = has-put h.machines m'.id m' id is

  -- the row that a machine had before
  before : (id : ℕ) (x : Machine) → at after.machines id ≡ Some x → (y : Machine) × (at h.machines id ≡ Some y) × (y.uuid ≡ x.uuid)
  before id x is = elim (cases id x is) [
    | inl w ↦ (m, ap (at h.machines) w.0 ∙ moved.was, sym moved.uuid ∙ ap (λ y. y.uuid) (sym w.1))
    | inr w ↦ (x, w.1, refl)
  ]

  had : (id : ℕ) → HasRow after.machines id → HasRow h.machines id
  had id is = let x = some_of (at after.machines id) is in ap (λ o. is_some o) (before id x.0 x.1).1

  -- another machine's rows are as they were
  other_machine : (x : Machine) → x.id ≢ m.id → IsSoundMachine (view_of h x) → IsSoundMachine (view_of after x)
  other_machine x apart =
      sound_among h x boots orders last (λ n b is its. moved.own_boots.others n b is (λ e. apart (sym its ∙ e))) (λ n o is its. moved.own_orders.others n o is (λ e. apart (sym its ∙ e)))

  machine_after : (id : ℕ) (x : Machine) → at after.machines id ≡ Some x → IsSoundMachine (view_of after x)
  machine_after id x is = elim (cases id x is) [
    | inl w ↦ subst (λ y. IsSoundMachine (view_of after y)) (sym w.1) moved.machine
    | inr w ↦ other_machine x (λ e. w.0 (sym (s.keyed.machines id x w.1) ∙ e)) (s.machines id x w.1)
  ]

  keyed : IsKeyed after
  keyed = record {
    operators = s.keyed.operators;
    pools = s.keyed.pools;
    members = s.keyed.members;
    images = s.keyed.images;
    lives = s.keyed.lives;
    machines = under-put (λ (x : Machine). x.id) h.machines m' s.keyed.machines;
    interfaces = s.keyed.interfaces;
    boots = λ n b is. elim (moved.own_boots.back n b is) [ inl w ↦ s.keyed.boots n b w.1 | inr w ↦ w.0 ];
    orders = λ n o is. elim (moved.own_orders.back n o is) [ inl w ↦ s.keyed.orders n o w.1 | inr w ↦ w.0 ];
    receipts = s.keyed.receipts;
  }

  has_own : (id : ℕ) → id ≡ m.id → HasRow after.machines id
  has_own id own = ap (λ q. is_some (at after.machines q)) own ∙ ap (λ o. is_some o) there

  waiting_after : (n : ℕ) (o : Order) → at orders n ≡ Some o → o.stage ≡ Waiting → (x : Machine) × (at after.machines o.machine ≡ Some x) × (x.waiting ≡ Some n)
  waiting_after n o is waits = elim (moved.own_orders.back n o is) [
    | inl w ↦ let x = s.waiting n o w.1 waits in (x.0, stays o.machine x.0 x.1 w.0, x.2)
    | inr w ↦ (m', ap (at after.machines) w.2 ∙ there, moved.waits n o is w.2 waits)
  ]

  same_size : size after.machines ≡ size h.machines
  same_size =
      let e = size-put h.machines m'.id m' in
      let one : one_if (is_some (at h.machines m'.id)) ≡ 1 = ap (λ id. one_if (is_some (at h.machines id))) moved.id ∙ ap (λ o. one_if (is_some o)) moved.was in
      omega arith

  -- a sound hall in which one machine has moved is sound
  pub moved_sound : IsSound after
  moved_sound = record {
    keyed = keyed;
    member_pools = s.member_pools;
    member_operators = s.member_operators;
    live_images = s.live_images;
    machine_pools = each_put (λ x. HasRow h.pools x.pool) h.machines m'.id m' moved.pool s.machine_pools;
    machine_owners = each_put (λ x. HasRowIf h.operators x.owner) h.machines m'.id m' moved.owner s.machine_owners;
    machine_images = each_put (λ x. HasRowIf h.images x.image) h.machines m'.id m' moved.image s.machine_images;
    interface_machines = λ mac i is. has i.machine (s.interface_machines mac i is);
    boot_machines = λ n b is. elim (moved.own_boots.back n b is) [ inl w ↦ has b.machine (s.boot_machines n b w.1) | inr w ↦ has_own b.machine w.2 ];
    order_machines = λ n o is. elim (moved.own_orders.back n o is) [ inl w ↦ has o.machine (s.order_machines n o w.1) | inr w ↦ has_own o.machine w.2 ];
    receipt_operators = s.receipt_operators;
    default = s.default;
    uuids = λ id other a b uuid is_a is_b of_a of_b.
        let x = before id a is_a in
        let y = before other b is_b in
        s.uuids id other x.0 y.0 uuid x.1 y.1 (x.2 ∙ of_a) (y.2 ∙ of_b);
    digests = s.digests;
    few_machines = omega (arith, same_size, s.few_machines);
    some_interfaces = λ id is. s.some_interfaces id (had id is);
    few_interfaces = λ id is. s.few_interfaces id (had id is);
    machines = machine_after;
    erasing = each_put (λ x. KeepsErase h.schema x) h.machines m'.id m' moved.erase s.erasing;
    waiting = waiting_after;
    last_machine = λ id is. omega (arith, s.last_machine id (had id is), moved.last_machine);
    last_boot = own_last (λ (b : Boot). b.number) (λ (b : Boot). b.machine) m.id h.boots h.last.boot last.boot boots moved.own_boots s.last_boot moved.last_boot;
    last_order = own_last (λ (o : Order). o.number) (λ (o : Order). o.machine) m.id h.orders h.last.order last.order orders moved.own_orders s.last_order moved.last_order;
  }

-- ---- the rows of one machine in a sound hall

module _ (h : Hall) (m : Machine) (s : IsSound h) where
  pub boots_same : OwnBoots h m.id h.last.boot h.boots
  boots_same = own_same (λ (b : Boot). b.number) (λ (b : Boot). b.machine) m.id h.boots h.last.boot s.keyed.boots s.last_boot

  pub orders_same : OwnOrders h m.id h.last.order h.orders
  orders_same = own_same (λ (o : Order). o.number) (λ (o : Order). o.machine) m.id h.orders h.last.order s.keyed.orders s.last_order

  pub waits_same : at h.machines m.id ≡ Some m → WaitsFor m.id m.waiting h.orders
  waits_same was n o is its wait =
      let x = s.waiting n o is wait in
      let same : x.0 ≡ m = some_is x.0 m (sym x.1 ∙ (ap (at h.machines) its ∙ was)) in
      ap (λ y. y.waiting) (sym same) ∙ x.2

-- ---- a machine that stays in its status

module _ (h : Hall) (m : Machine) (s : IsSound h) (was : at h.machines m.id ≡ Some m) (x : Machine) (boots : Rows numbers Boot) (orders : Rows numbers Order) (last_boot : ℕ) where
  -- its version, its pool, its lock, its boot, how many boots are counted, and its order may be others
  abbrev stayed : Machine
  stayed = record m { version = x.version; pool = x.pool; locked = x.locked; boot = x.boot; boots = x.boots; waiting = x.waiting }

  v : IsSoundMachine (view_of h m)
  v = s.machines m.id m was

  erase_stays : (schema : Schema) → KeepsErase schema m → KeepsErase schema stayed
  erase_stays first keeps = keeps
  erase_stays second keeps = keeps

  -- the hall stays sound if they are as they have to be
  pub stayed_sound : HasRow h.pools x.pool → (IsTrue x.locked → m.status ≡ Deployed)
      → OwnBoots h m.id last_boot boots → h.last.boot ≤ last_boot
      → ((n : ℕ) → x.boot ≡ Some n → (b : Boot) × (row_at boots x.boot ≡ Some b) × (b.machine ≡ m.id) × ((b.stage ≡ Offered) ⊎ (b.stage ≡ Started)) × (class_of m ≡ Work b.purpose))
      → x.boots ≤ MAX_BOOTS → (m.status ≡ Rescue → x.boots ≡ 0)
      → OwnOrders h m.id h.last.order orders → WaitsFor m.id x.waiting orders
      → ((n : ℕ) → x.waiting ≡ Some n → (o : Order) × (row_at orders x.waiting ≡ Some o) × (o.machine ≡ m.id) × (o.stage ≡ Waiting))
      → (m.status ≡ Deployed → x.waiting ≡ None)
      → IsSound (moved_to h stayed boots orders (record h.last { boot = last_boot }))
  stayed_sound pool locked own_boots later boot few none own_orders waits order deployed =
      moved_sound h m stayed boots orders (record h.last { boot = last_boot }) s (record {
        was = was;
        id = refl;
        uuid = refl;
        pool = pool;
        owner = s.machine_owners m.id m was;
        image = s.machine_images m.id m was;
        own_boots = own_boots;
        own_orders = own_orders;
        waits = waits;
        last_machine = refl;
        last_boot = later;
        last_order = omega arith;
        machine = record {
          boot = boot;
          order = order;
          deployed = deployed;
          boots = few;
          rescue = none;
          locked = locked;
          deadline = v.deadline;
          back = v.back;
          remembered = v.remembered;
          image = λ q is. ap (λ o. is_some o) (image_for-same q (view_of (moved_to h stayed boots orders (record h.last { boot = last_boot })) stayed) (view_of h m) refl refl) ∙ v.image q is;
        };
        erase = erase_stays h.schema (s.erasing m.id m was);
      })
