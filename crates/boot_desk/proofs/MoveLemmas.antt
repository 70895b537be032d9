-- How the rows of one machine change, except for entries: a new boot, a boot's stage, an order that waits no more.
use Rattle.std.{specs.Prelude.{◌≡◌, ◌≤◌, ◌==◌, ◌&&◌, not, ℕ, ◌+◌, Bool, true, false, List, Some, None, is_some}, proofs.{Common.{refl, sym, ap, subst, inl, inr, arith, ◌∙◌}, lemmas.{Bool.eqb-false, Option.none-some}}}
use Rattle.hall_types.specs.{Number.next_number, Rows.{numbers, Rows, at, put}, RowLaws.{at-put-same, put_same}, Hall.Hall, declared.{boot.Boot.Boot, kinds.{Purpose.Purpose, Stage.{Stage, TheVariants.Started}}, machine.Machine.Machine, order.Order.Order, status.Status.{Status, TheVariants.Rescue}}}
use Rattle.boot_desk.specs.{declared.class.ScriptClass.TheVariants.Work, Class.class_of, Fetch.{booted, boots_after, is_fourth, is_rescue_mode, new_boot}, OrderAnswer.idle, Views.{row_at, view_of}, Sound.{IsSoundMachine, IsSound}, SoundLaws.{some_is, own_put, boots_same, orders_same, waits_same, OwnBoots, OwnOrders, WaitsFor, moved_to, stayed_sound}, EntryLaws.next_is}

-- before the fourth boot there is room for one more
few_boots : (status : Status) (boots : ℕ) → boots ≤ 3 → ((boots == 3) && not (is_rescue_mode status)) ≡ false → boots_after status boots ≤ 3
few_boots status boots le few = by status (boots == 3) refl few
  where
    other_than : (b : Bool) → (boots == 3) ≡ b → (b && true) ≡ false → boots + 1 ≤ 3
    other_than true t e = cc
    other_than false t e = let apart = eqb-false boots 3 t in omega (arith, le, apart)

    by : (x : Status) (b : Bool) → (boots == 3) ≡ b → (b && not (is_rescue_mode x)) ≡ false → boots_after x boots ≤ 3
    by Rescue b t e = le
    by other b t e = other_than b t e

no_boots : (status : Status) (boots : ℕ) → status ≡ Rescue → boots ≡ 0 → boots_after status boots ≡ 0
no_boots status boots is none = ap (λ x. boots_after x boots) is ∙ none

module _ (h : Hall) (m : Machine) (s : IsSound h) (was : at h.machines m.id ≡ Some m) where
  v : IsSoundMachine (view_of h m)
  v = s.machines m.id m was

  -- ---- a new boot

  pub issue_sound : (number : ℕ) (p : Purpose) (fresh : List ℕ) → next_number h.last.boot ≡ Some number → class_of m ≡ Work p → is_fourth m ≡ false
      → IsSound (moved_to h (booted number m) (put number (new_boot number m p fresh) h.boots) h.orders (record h.last { boot = number }))
  issue_sound number p fresh next works few =
      stayed_sound h m s was (booted number m) (put number new h.boots) h.orders number (s.machine_pools m.id m was) v.locked
      (own_put (λ (b : Boot). b.number) (λ (b : Boot). b.machine) m.id h.boots h.last.boot number h.boots new (boots_same h m s)
      (omega (arith, above)) refl (omega arith) (λ b is. absurd (unused b is)))
      (omega (arith, above)) (λ n is. (new, at-put-same h.boots number new, refl, inl refl, works)) (few_boots m.status m.boots v.boots few) (λ is. no_boots m.status m.boots is (v.rescue is))
      (orders_same h m s) (waits_same h m s was) v.order v.deployed
    where
      new : Boot
      new = new_boot number m p fresh

      above : number ≡ h.last.boot + 1
      above = next_is h.last.boot number next

      unused : (b : Boot) → at h.boots number ≡ Some b → ⊥
      unused b is = omega (arith, above, s.last_boot number (ap (λ x. is_some x) is))

  -- ---- a boot's stage

  pub boots_staged : (b : Boot) (stage : Stage) → at h.boots b.number ≡ Some b → b.machine ≡ m.id → OwnBoots h m.id h.last.boot (put b.number (record b { stage = stage }) h.boots)
  boots_staged b stage is its =
      own_put (λ (b : Boot). b.number) (λ (b : Boot). b.machine) m.id h.boots h.last.boot h.last.boot h.boots (record b { stage = stage }) (boots_same h m s) (omega arith) its (s.last_boot b.number (ap (λ x. is_some x) is))
      (λ x there. ap (λ (y : Boot). y.machine) (some_is x b (sym there ∙ is)) ∙ its)

  -- the machine's current boot has started
  pub start_sound : (b : Boot) → at h.boots b.number ≡ Some b → b.machine ≡ m.id → m.boot ≡ Some b.number → class_of m ≡ Work b.purpose → IsSound (record h { boots = put b.number (record b { stage = Started }) h.boots })
  start_sound b is its current works =
      subst (λ machines. IsSound (record h { machines = machines; boots = boots })) (put_same h.machines m.id m was)
      (stayed_sound h m s was m boots h.orders h.last.boot (s.machine_pools m.id m was) v.locked
      (boots_staged b Started is its) (omega arith)
      (λ n is. (record b { stage = Started }, ap (row_at boots) current ∙ at-put-same h.boots b.number (record b { stage = Started }), its, inr refl, works)) v.boots v.rescue
      (orders_same h m s) (waits_same h m s was) v.order v.deployed)
    where
      boots : Rows numbers Boot
      boots = put b.number (record b { stage = Started }) h.boots

  -- ---- an order that waits no more

  pub idle_sound : (orders : Rows numbers Order) → OwnOrders h m.id h.last.order orders → WaitsFor m.id None orders → IsSound (moved_to h (idle m) h.boots orders h.last)
  idle_sound orders own waits =
      stayed_sound h m s was (idle m) h.boots orders h.last.boot (s.machine_pools m.id m was) v.locked
      (boots_same h m s) (omega arith) v.boot v.boots v.rescue own waits (λ n is. absurd (none-some n is)) (λ is. refl)
