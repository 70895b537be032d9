-- A hall stays sound if one of its machines enters a status as it may.
use Rattle.std.{specs.{Prelude.{◌≡◌, ◌≢◌, ◌⊎◌, ◌≤◌, ◌==◌, ℕ, ◌+◌, Bool, true, false, Option, Some, None, is_some, IsSome, option_map, not, if◌then◌else◌}, List.list_all}, proofs.{Common.{refl, sym, ap, subst, inl, inr, arith, ◌∙◌}, lemmas.{Bool.{both_ways, not-true}, Option.none-some}}}
use Rattle.hall_types.specs.{Number.{next_number, max_number}, Rows.{Keys, numbers, Rows, at, put}, RowLaws.{at-put-same, put_cases}, Hall.{Schema, first, second, Hall, applied}, declared.{boot.Boot.Boot, kinds.{OrderKind.OrderKind, OrderStage.TheVariants.{Waiting, Withdrawn}, Purpose.Purpose, Stage.TheVariants.{Offered, Started}}, machine.Machine.Machine, number.Numbers.Numbers, order.Order.Order, status.Status.{Status, TheVariants.{Deployed, EnteringRescue, Rescue}}}, Status.status_number, Lookup.{HasRow, HasRowIf}}
use Rattle.life_cycle.specs.{declared.{entering.Entered.Entered, signal.Signal.{Signal, TheVariants.By}, step.Step.Step}, Entering.{back_after, boot_after, entered, is_rescue, keeps_owner, kept, limit_of, machine_in}, Table.{transitions, step_of}, TableLaws.{StepTest, passes, only_if, only_if_true, is_status, is_status-same, each_step}, EnteringLaws.{entered_cases, entered-back, entered-status, remembered_in_rescue, remembered_statuses}, Laws.IsRemembered}
use Rattle.boot_desk.specs.{declared.class.ScriptClass.TheVariants.Work, Class.class_in, Fetch.image_for, Following.entry_rows, Views.{row_at, view_of}, Sound.{KeepsErase, IsSound}, SoundLaws.{some_is, own_put, boots_same, orders_same, waits_same, OwnBoots, OwnOrders, WaitsFor, moved_to, image_for-same, moved_sound}}

-- ---- the order that waited

-- the next number is one more than the last
pub next_is : (last n : ℕ) → next_number last ≡ Some n → n ≡ last + 1
next_is last n is = by (last == max_number) is
  where
    by : (b : Bool) → (if b then None else Some (last + 1)) ≡ Some n → n ≡ last + 1
    by true e = cc
    by false e = cc

-- the orders after the one that waited is withdrawn
abbrev pub cleared : Option Order → Rows numbers Order → Rows numbers Order
cleared None orders = orders
cleared (Some o) orders = put o.number (record o { stage = Withdrawn }) orders

module _ (h : Hall) (m : Machine) (s : IsSound h) (was : at h.machines m.id ≡ Some m) where
  -- an order of the machine takes another stage
  pub orders_answered : (o o' : Order) → at h.orders o.number ≡ Some o → o.machine ≡ m.id → o'.number ≡ o.number → o'.machine ≡ o.machine → OwnOrders h m.id h.last.order (put o'.number o' h.orders)
  orders_answered o o' is its number machine =
      own_put (λ (x : Order). x.number) (λ (x : Order). x.machine) m.id h.orders h.last.order h.last.order h.orders o' (orders_same h m s) (omega arith) (machine ∙ its)
      (omega (arith, number, s.last_order o.number (ap (λ x. is_some x) is)))
      (λ x there. ap (λ (y : Order). y.machine) (some_is x o (sym there ∙ (ap (at h.orders) number ∙ is))) ∙ its)

  -- once the order that waited has another stage, none waits
  pub waits_answered : (n : ℕ) (o' : Order) → m.waiting ≡ Some n → o'.number ≡ n → o'.stage ≢ Waiting → WaitsFor m.id None (put o'.number o' h.orders)
  waits_answered n o' waiting number done k o is its wait = elim (put_cases h.orders o'.number o' k o is) [
    | inl w ↦ absurd (done (ap (λ x. x.stage) (sym w.1) ∙ wait))
    | inr w ↦ absurd (w.0 (some_is k n (sym (waits_same h m s was k o w.1 its wait) ∙ waiting) ∙ sym number))
  ]

  not_waiting : Withdrawn ≢ Waiting
  not_waiting e = cc

  -- the order that waited is withdrawn
  pub orders_withdrawn : OwnOrders h m.id h.last.order (cleared (row_at h.orders m.waiting) h.orders)
  orders_withdrawn = by m.waiting refl
    where
      by : (w : Option ℕ) → m.waiting ≡ w → OwnOrders h m.id h.last.order (cleared (row_at h.orders w) h.orders)
      by None is = orders_same h m s
      by (Some n) is =
          let o = (s.machines m.id m was).order n is in
          let there : at h.orders n ≡ Some o.0 = ap (row_at h.orders) (sym is) ∙ o.1 in
          let number : o.0.number ≡ n = s.keyed.orders n o.0 there in
          subst (λ w. OwnOrders h m.id h.last.order (cleared w h.orders)) (sym there)
          (orders_answered o.0 (record o.0 { stage = Withdrawn }) (ap (at h.orders) number ∙ there) o.2 refl refl)

  pub waits_withdrawn : WaitsFor m.id None (cleared (row_at h.orders m.waiting) h.orders)
  waits_withdrawn = by m.waiting refl
    where
      by : (w : Option ℕ) → m.waiting ≡ w → WaitsFor m.id None (cleared (row_at h.orders w) h.orders)
      by None is = λ k o there its wait. sym is ∙ waits_same h m s was k o there its wait
      by (Some n) is =
          let o = (s.machines m.id m was).order n is in
          let there : at h.orders n ≡ Some o.0 = ap (row_at h.orders) (sym is) ∙ o.1 in
          let number : o.0.number ≡ n = s.keyed.orders n o.0 there in
          subst (λ w. WaitsFor m.id None (cleared w h.orders)) (sym there) (waits_answered n (record o.0 { stage = Withdrawn }) is number not_waiting)

-- ---- entries

-- A machine may enter the status of a step, in a hall with these boots. When it enters it may differ from its row in the
-- hall, since a command may have changed it before.
pub record MayEnter (h : Hall) (m entering : Machine) (step : Step) (moment : ℕ) (boots : Rows numbers Boot) : Type 0 where
  pub id : entering.id ≡ m.id
  pub uuid : entering.uuid ≡ m.uuid
  pub pool : HasRow h.pools entering.pool
  pub owner : HasRowIf h.operators entering.owner
  pub image : HasRowIf h.images entering.image
  pub unlocked : entering.locked ≡ false
  pub back : is_some (back_after entering.status step.status entering.back) ≡ is_rescue step.status
  pub remembered : IsRemembered (back_after entering.status step.status entering.back)
  -- no order is queued for a Deployed machine
  pub deployed : step.status ≡ Deployed → step.order ≡ None
  pub erase : KeepsErase h.schema (machine_in entering step.status moment None)
  -- a boot that is kept is its own, offered or started, for what the machine works for in the new status
  pub boot : (number : ℕ) → boot_after entering.status step.status entering.boot ≡ Some number →
      (b : Boot) × (at boots number ≡ Some b) × (b.machine ≡ m.id) × ((b.stage ≡ Offered) ⊎ (b.stage ≡ Started)) × (class_in step.status (back_after entering.status step.status entering.back) ≡ Work b.purpose)
  -- the image that it works with in the new status is recorded
  pub works : (purpose : Purpose) → class_in step.status (back_after entering.status step.status entering.back) ≡ Work purpose → IsSome (image_for purpose (view_of h (machine_in entering step.status moment None)))

kept_has : {K X : Type 0} {keys : Keys K} (rows : Rows keys X) (b : Bool) (o : Option K) → HasRowIf rows o → HasRowIf rows (kept b o)
kept_has rows true o has = has
kept_has rows false o has = λ key is. absurd (none-some key is)

-- how the disks are erased doesn't depend on the order that waits
erase_kept : (schema : Schema) (m : Machine) (step : Step) (moment : ℕ) (waiting : Option ℕ) → KeepsErase schema (machine_in m step.status moment None) → KeepsErase schema (machine_in m step.status moment waiting)
erase_kept first m step moment waiting keeps = keeps
erase_kept second m step moment waiting keeps = keeps

mapped : {X Y : Type 0} (f : X → Y) (o : Option X) → is_some (option_map f o) ≡ is_some o
mapped f None = refl
mapped f (Some x) = refl

module _ (h : Hall) (m entering : Machine) (step : Step) (moment : ℕ) (boots : Rows numbers Boot) (s : IsSound h) (was : at h.machines m.id ≡ Some m) (may : MayEnter h m entering step moment boots) (own : OwnBoots h m.id h.last.boot boots) where
  -- the machine has entered its new status: of these orders this one waits for it, and this is the last number of one
  entry : (waiting : Option ℕ) (orders : Rows numbers Order) (last : ℕ) → OwnOrders h m.id last orders → WaitsFor m.id waiting orders → h.last.order ≤ last
      → ((number : ℕ) → waiting ≡ Some number → (o : Order) × (at orders number ≡ Some o) × (o.machine ≡ m.id) × (o.stage ≡ Waiting))
      → (step.status ≡ Deployed → waiting ≡ None)
      → IsSound (moved_to h (machine_in entering step.status moment waiting) boots orders (record h.last { order = last }))
  entry waiting orders last own_orders waits later order deployed =
      moved_sound h m (machine_in entering step.status moment waiting) boots orders (record h.last { order = last }) s (record {
        was = was;
        id = may.id;
        uuid = may.uuid;
        pool = may.pool;
        owner = kept_has h.operators (keeps_owner step.status) entering.owner may.owner;
        image = kept_has h.images (keeps_owner step.status) entering.image may.image;
        own_boots = own;
        own_orders = own_orders;
        waits = waits;
        last_machine = refl;
        last_boot = omega arith;
        last_order = later;
        machine = record {
          boot = λ number is.
              let b = may.boot number is in
              (b.0, ap (row_at boots) is ∙ b.1, b.2 ∙ sym may.id, b.3, b.4);
          order = λ number is.
              let o = order number is in
              (o.0, ap (row_at orders) is ∙ o.1, o.2 ∙ sym may.id, o.3);
          deployed = deployed;
          boots = omega arith;
          rescue = λ is. refl;
          locked = λ is. absurd (both_ways entering.locked may.unlocked is);
          deadline = mapped (λ limit. moment + limit) (limit_of step.status);
          back = may.back;
          remembered = may.remembered;
          image = λ purpose is.
              ap (λ o. is_some o) (image_for-same purpose (view_of (moved_to h (machine_in entering step.status moment waiting) boots orders (record h.last { order = last })) (machine_in entering step.status moment waiting)) (view_of h (machine_in entering step.status moment None)) refl refl)
              ∙ may.works purpose is;
        };
        erase = erase_kept h.schema entering step moment waiting may.erase;
      })

  -- no order is queued
  entry_plain : (orders : Rows numbers Order) → OwnOrders h m.id h.last.order orders → WaitsFor m.id None orders → IsSound (moved_to h (machine_in entering step.status moment None) boots orders h.last)
  entry_plain orders own_orders waits =
      entry None orders h.last.order own_orders waits (omega arith) (λ number is. absurd (none-some number is)) (λ is. refl)

  -- an order is queued
  entry_queued : (orders : Rows numbers Order) → OwnOrders h m.id h.last.order orders → WaitsFor m.id None orders → (kind : OrderKind) (n : ℕ) → step.order ≡ Some kind → next_number h.last.order ≡ Some n
      → IsSound (moved_to h (machine_in entering step.status moment (Some n)) boots (put n (record { number = n; machine = entering.id; kind = kind; stage = Waiting }) orders) (record h.last { order = n }))
  entry_queued orders own_orders waits kind n queued next =
      entry (Some n) (put n new orders) n
      (own_put (λ (o : Order). o.number) (λ (o : Order). o.machine) m.id h.orders h.last.order n orders new own_orders
      (omega (arith, above)) may.id (omega arith) (λ o is. absurd (fresh o is)))
      (λ k o is its wait. elim (put_cases orders n new k o is) [ inl w ↦ ap (λ x. Some x) (sym w.0) | inr w ↦ absurd (none-some k (waits k o w.1 its wait)) ])
      (omega (arith, above))
      (λ number is. (new, ap (at (put n new orders)) (sym (some_is n number is)) ∙ at-put-same orders n new, may.id, refl))
      (λ is. absurd (none-some kind (sym (may.deployed is) ∙ queued)))
    where
      new : Order
      new = record { number = n; machine = entering.id; kind = kind; stage = Waiting }

      above : n ≡ h.last.order + 1
      above = next_is h.last.order n next

      fresh : (o : Order) → at h.orders n ≡ Some o → ⊥
      fresh o is = omega (arith, above, s.last_order n (ap (λ x. is_some x) is))

  -- the rows of an entry leave the hall sound, where these are its boots and orders before
  pub entry_sound : (before : Machine) (withdrawn : Option Order) (orders : Rows numbers Order) (e : Entered) → OwnOrders h m.id h.last.order (cleared withdrawn orders) → WaitsFor m.id None (cleared withdrawn orders)
      → entered entering step moment h.last ≡ Some e → IsSound (applied (entry_rows before withdrawn e) (record h { boots = boots; orders = orders }))
  entry_sound before None orders e own_orders waits is =
      entered_cases (λ x. IsSound (applied (entry_rows before None x) (record h { boots = boots; orders = orders }))) entering step moment h.last e
      (λ none. entry_plain orders own_orders waits) (entry_queued orders own_orders waits) is
  entry_sound before (Some o) orders e own_orders waits is =
      entered_cases (λ x. IsSound (applied (entry_rows before (Some o) x) (record h { boots = boots; orders = orders }))) entering step moment h.last e
      (λ none. entry_plain (cleared (Some o) orders) own_orders waits) (entry_queued (cleared (Some o) orders) own_orders waits) is

-- the rows of an entry that is all that is written: the order that waited is withdrawn
pub entry_from_sound : (h : Hall) (m entering : Machine) (step : Step) (moment : ℕ) → IsSound h → at h.machines m.id ≡ Some m → MayEnter h m entering step moment h.boots
    → (before : Machine) (e : Entered) → entered entering step moment h.last ≡ Some e → IsSound (applied (entry_rows before (row_at h.orders m.waiting) e) h)
entry_from_sound h m entering step moment s was may before e is =
    entry_sound h m entering step moment h.boots s was may (boots_same h m s) before (row_at h.orders m.waiting) h.orders e (orders_withdrawn h m s was) (waits_withdrawn h m s was) is

-- ---- what the table says of each entry

-- a boot is kept only into Rescue mode
pub boot_goes : (from status : Status) (boot : Option ℕ) → is_status status Rescue ≡ false → boot_after from status boot ≡ None
unfolding boot_after status_number
boot_goes EnteringRescue Rescue boot e = cc
boot_goes from status boot e = refl

pub boot_stays : (from status : Status) (boot : Option ℕ) → from ≡ EnteringRescue → status ≡ Rescue → boot_after from status boot ≡ boot
unfolding boot_after
boot_stays from status boot is into = ap (λ x. boot_after x status boot) is ∙ ap (λ x. boot_after EnteringRescue x boot) into

-- whether an operator gives the signal
abbrev pub is_by : Signal → Bool
is_by (By action) = true
is_by other = false

-- no command leads to Rescue mode
abbrev no_rescue_mode : StepTest
no_rescue_mode signal from at order = only_if (is_by signal) (not (is_status at Rescue))

all_no_rescue_mode : list_all (passes no_rescue_mode) transitions ≡ true
unfolding status_number
all_no_rescue_mode = refl

-- no order is queued for a Deployed machine
abbrev plain_deployed : StepTest
plain_deployed signal from at order = only_if (is_status at Deployed) (not (is_some order))

all_plain : list_all (passes plain_deployed) transitions ≡ true
unfolding status_number
all_plain = refl

none_of : {X : Type 0} (o : Option X) → not (is_some o) ≡ true → o ≡ None
none_of None is = refl
none_of (Some x) is = cc

module _ (m : Machine) (signal : Signal) (step : Step) (remembers : IsRemembered m.back) (leads : step_of m signal ≡ Some step) where
  -- no command keeps a boot
  pub command-boot : is_by signal ≡ true → (boot : Option ℕ) → boot_after m.status step.status boot ≡ None
  command-boot command boot =
      boot_goes m.status step.status boot
      (not-true (is_status step.status Rescue) (only_if_true (is_by signal) (not (is_status step.status Rescue)) (each_step no_rescue_mode m signal step all_no_rescue_mode remembers leads) command))

  -- no order is queued for a Deployed machine
  pub deployed-order : step.status ≡ Deployed → step.order ≡ None
  deployed-order is =
      none_of step.order (only_if_true (is_status step.status Deployed) (not (is_some step.order)) (each_step plain_deployed m signal step all_plain remembers leads) (is_status-same step.status Deployed is))

  module _ (moment : ℕ) (last : Numbers) (e : Entered) (is : entered m step moment last ≡ Some e) where
    -- a status is remembered exactly in the five statuses of rescue
    pub is_some-back : is_some m.back ≡ is_rescue m.status → is_some (back_after m.status step.status m.back) ≡ is_rescue step.status
    is_some-back exactly =
        ap (λ o. is_some o) (sym (entered-back m step moment last e is))
        ∙ (remembered_in_rescue m signal step moment last e remembers exactly leads is ∙ ap is_rescue (entered-status m step moment last e is))

    pub back-remembered : IsRemembered (back_after m.status step.status m.back)
    back-remembered =
        subst IsRemembered (entered-back m step moment last e is) (remembered_statuses m step moment last e remembers is)
