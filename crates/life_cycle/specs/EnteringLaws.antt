-- What entering a status makes of a machine, field by field, and what a machine remembers.
use Rattle.std.{specs.Prelude.{◌≡◌, ◌⊎◌, ◌||◌, not, ℕ, ◌+◌, Bool, true, false, Option, Some, None, is_some, option_map, unwrap_or, if◌then◌else◌}, proofs.{Common.{refl, sym, ap, subst, inl, inr, ◌∙◌}, lemmas.{Bool.{both_ways, not-true, or_cases}, Option.none-some}}}
use Rattle.hall_types.specs.{Number.next_number, declared.{status.Status.{Status, TheVariants.EnteringRescue}, kinds.{OrderKind.OrderKind, OrderStage.TheVariants.Waiting}, machine.Machine.Machine, number.Numbers.Numbers, order.Order.Order}}
use Rattle.life_cycle.specs.declared.action.Action.TheVariants as act
use Rattle.hall_types.specs.declared.act.Act.TheVariants as does
use Rattle.life_cycle.specs.{declared.{signal.Signal.{Signal, TheVariants.By}, step.Step.Step, entering.Entered.Entered}, Table.step_of, Entering.{back_after, boot_after, entered, entered_by, entered_plain, entered_queued, is_origin, is_rescue, keeps_erase, keeps_owner, kept, limit_of, machine_in}, Laws.IsRemembered, TableLaws.{each_status, only_if, only_if_true}, StepLaws.{rescue_enters, ways_to_rescue}}

-- ---- the two ways to enter a status

same_entered : (a b : Entered) → Some a ≡ Some b → a ≡ b
same_entered a b e = ap (λ o. unwrap_or o a) e

-- what holds where no order is queued, and where one is, holds of each machine that enters a status
pub entered_cases : (P : Entered → Type 0) (m : Machine) (step : Step) (moment : ℕ) (numbers : Numbers) (e : Entered)
    → (step.order ≡ None → P (entered_plain m step.status moment numbers))
    → ((kind : OrderKind) (n : ℕ) → step.order ≡ Some kind → next_number numbers.order ≡ Some n → P (entered_queued m step.status moment numbers kind n))
    → entered m step moment numbers ≡ Some e → P e
entered_cases P m step moment numbers e plain queued is = by step.order refl is
  where
    by_number : (kind : OrderKind) (n : Option ℕ) → step.order ≡ Some kind → next_number numbers.order ≡ n → option_map (entered_queued m step.status moment numbers kind) n ≡ Some e → P e
    by_number kind None o n is = absurd (none-some e is)
    by_number kind (Some k) o n is = subst P (same_entered (entered_queued m step.status moment numbers kind k) e is) (queued kind k o n)

    by : (order : Option OrderKind) → step.order ≡ order → entered_by m step.status moment numbers order ≡ Some e → P e
    by None o is = subst P (same_entered (entered_plain m step.status moment numbers) e is) (plain o)
    by (Some kind) o is = by_number kind (next_number numbers.order) o refl is

-- ---- field by field

-- the order that is queued is the next one, it waits, and its number is the last one given out afterwards
pub record IsQueued (m : Machine) (step : Step) (before after : Numbers) (order : Order) : Type 0 where
  pub number : next_number before.order ≡ Some order.number
  pub last : after.order ≡ order.number
  pub machine : order.machine ≡ m.id
  pub kind : step.order ≡ Some order.kind
  pub stage : order.stage ≡ Waiting

module _ (m : Machine) (step : Step) (moment : ℕ) (numbers : Numbers) (e : Entered) (is : entered m step moment numbers ≡ Some e) where
  pub entered-machine : e.machine ≡ machine_in m step.status moment e.machine.waiting
  entered-machine =
      entered_cases (λ x. x.machine ≡ machine_in m step.status moment x.machine.waiting) m step moment numbers e (λ o. refl) (λ kind n o next. refl) is

  pub entered-id : e.machine.id ≡ m.id
  entered-id = ap (λ x. x.id) entered-machine

  pub entered-status : e.machine.status ≡ step.status
  entered-status = ap (λ x. x.status) entered-machine

  pub entered-image : e.machine.image ≡ kept (keeps_owner step.status) m.image
  entered-image = ap (λ x. x.image) entered-machine

  pub entered-back : e.machine.back ≡ back_after m.status step.status m.back
  entered-back = ap (λ x. x.back) entered-machine

  pub entered-erase : e.machine.erase ≡ kept (keeps_erase step.status) m.erase
  entered-erase = ap (λ x. x.erase) entered-machine

  pub entered-deadline : e.machine.deadline ≡ option_map (λ limit. moment + limit) (limit_of step.status)
  entered-deadline = ap (λ x. x.deadline) entered-machine

  pub entered-boot : e.machine.boot ≡ boot_after m.status step.status m.boot
  entered-boot = ap (λ x. x.boot) entered-machine

  pub entered-order-queued : (order : Order) → e.order ≡ Some order → IsQueued m step numbers e.numbers order
  entered-order-queued =
      entered_cases (λ x. (order : Order) → x.order ≡ Some order → IsQueued m step numbers x.numbers order) m step moment numbers e (λ o order q. absurd (none-some order q)) queued is
    where
      queued : (kind : OrderKind) (n : ℕ) → step.order ≡ Some kind → next_number numbers.order ≡ Some n → (order : Order) → Some (record { number = n; machine = m.id; kind = kind; stage = Waiting }) ≡ Some order → IsQueued m step numbers (record numbers { order = n }) order
      queued kind n o next order q =
          let new : Order = record { number = n; machine = m.id; kind = kind; stage = Waiting } in
          subst (λ (x : Order). IsQueued m step numbers (record numbers { order = n }) x) (ap (λ (x : Option Order). unwrap_or x new) q) (record { number = next; last = refl; machine = refl; kind = o; stage = refl })

  -- the last number of an order is the queued order's, and the other last numbers stay
  pub entered-numbers : e.numbers ≡ record numbers { order = unwrap_or (option_map (λ o. o.number) e.order) numbers.order }
  entered-numbers =
      entered_cases (λ x. x.numbers ≡ record numbers { order = unwrap_or (option_map (λ o. o.number) x.order) numbers.order }) m step moment numbers e (λ o. refl) (λ kind n o next. refl) is

-- ---- deadlines

is_some-option_map : {X Y : Type 0} (f : X → Y) (o : Option X) → is_some (option_map f o) ≡ is_some o
is_some-option_map f None = refl
is_some-option_map f (Some x) = refl

-- a machine has a deadline exactly if its new status has a limit
pub limits_enter : (m : Machine) (step : Step) (moment : ℕ) (numbers : Numbers) (e : Entered) → entered m step moment numbers ≡ Some e → is_some e.machine.deadline ≡ is_some (limit_of e.machine.status)
limits_enter m step moment numbers e is =
    ap (λ o. is_some o) (entered-deadline m step moment numbers e is)
    ∙ is_some-option_map (λ limit. moment + limit) (limit_of step.status)
    ∙ ap (λ s. is_some (limit_of s)) (sym (entered-status m step moment numbers e is))

-- ---- what is remembered

back_remembered : (from status : Status) (back : Option Status) → IsRemembered back → IsRemembered (back_after from status back)
unfolding back_after
back_remembered from status back r = by (is_rescue status) (is_origin from) refl
  where
    by : (rescue origin : Bool) → is_origin from ≡ origin → IsRemembered (if rescue then (if origin then Some from else back) else None)
    by true true o = o
    by true false o = r
    by false origin o = refl

-- what is remembered is Deployed or Broken, whatever steps are taken
pub remembered_statuses : (m : Machine) (step : Step) (moment : ℕ) (numbers : Numbers) (e : Entered) → IsRemembered m.back → entered m step moment numbers ≡ Some e → IsRemembered e.machine.back
remembered_statuses m step moment numbers e r is =
    subst IsRemembered (sym (entered-back m step moment numbers e is)) (back_remembered m.status step.status m.back r)

entering_is_rescue : (status : Status) → status ≡ EnteringRescue → is_rescue status ≡ true
unfolding is_rescue
entering_is_rescue status is = ap is_rescue is

-- what is remembered in a rescue that begins, or that goes on
back_after-in_rescue : (from status : Status) (back : Option Status) (begins : Bool) → is_rescue status ≡ true → is_origin from ≡ begins
    → back_after from status back ≡ (if begins then Some from else back)
unfolding back_after
back_after-in_rescue from status back begins rescue origin =
    ap (λ b. if b then (if is_origin from then Some from else back) else None) rescue ∙ ap (λ b. if b then Some from else back) origin

-- a rescue that begins from Deployed or Broken remembers that very status
pub rescue_begins : (m : Machine) (step : Step) (moment : ℕ) (numbers : Numbers) (e : Entered) → IsRemembered m.back → is_origin m.status ≡ true → step_of m (By (act.Act does.Rescue)) ≡ Some step → entered m step moment numbers ≡ Some e → e.machine.back ≡ Some m.status
rescue_begins m step moment numbers e r origin by is =
    entered-back m step moment numbers e is
    ∙ back_after-in_rescue m.status step.status m.back true (entering_is_rescue step.status (rescue_enters m step r by)) origin

abbrev is_apart : Status → Bool
is_apart status = only_if (is_rescue status) (not (is_origin status))

no_origin : (status : Status) → is_rescue status ≡ true → is_origin status ≡ false
unfolding is_rescue is_origin
no_origin status rescue =
    not-true (is_origin status) (only_if_true (is_rescue status) (not (is_origin status)) (each_status is_apart refl status) rescue)

-- each step within the five statuses of a rescue keeps what is remembered
pub rescue_keeps : (m : Machine) (step : Step) (moment : ℕ) (numbers : Numbers) (e : Entered) → is_rescue m.status ≡ true → is_rescue step.status ≡ true → entered m step moment numbers ≡ Some e → e.machine.back ≡ m.back
rescue_keeps m step moment numbers e from at is =
    entered-back m step moment numbers e is ∙ back_after-in_rescue m.status step.status m.back false at (no_origin m.status from)

exactly_in_rescue : (from status : Status) (back : Option Status) → is_some back ≡ is_rescue from → (is_rescue status ≡ true → (is_rescue from || is_origin from) ≡ true) → is_some (back_after from status back) ≡ is_rescue status
unfolding back_after
exactly_in_rescue from status back exactly entry = by (is_rescue status) (is_origin from) refl refl
  where
    still : is_origin from ≡ false → (is_rescue from ≡ true) ⊎ (is_origin from ≡ true) → is_some back ≡ true
    still o (inl t) = exactly ∙ t
    still o (inr t) = absurd (both_ways (is_origin from) o t)

    by : (rescue origin : Bool) → is_rescue status ≡ rescue → is_origin from ≡ origin → is_some (if rescue then (if origin then Some from else back) else None) ≡ rescue
    by true true r o = refl
    by true false r o = still o (or_cases (is_rescue from) (is_origin from) (entry r))
    by false origin r o = refl

-- a status is remembered exactly in the five statuses of a rescue
pub remembered_in_rescue : (m : Machine) (signal : Signal) (step : Step) (moment : ℕ) (numbers : Numbers) (e : Entered) → IsRemembered m.back → is_some m.back ≡ is_rescue m.status → step_of m signal ≡ Some step → entered m step moment numbers ≡ Some e → is_some e.machine.back ≡ is_rescue e.machine.status
remembered_in_rescue m signal step moment numbers e r exactly by is =
    ap (λ o. is_some o) (entered-back m step moment numbers e is)
    ∙ exactly_in_rescue m.status step.status m.back exactly (ways_to_rescue m signal step r by)
    ∙ ap is_rescue (sym (entered-status m step moment numbers e is))
