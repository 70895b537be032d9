-- Each row that a decision writes keeps the tables' rules.
use Rattle.std.{specs.Prelude.{◌≡◌, ◌++◌, ℕ, ◌==◌, Bool, true, false, List, [], ◌∷◌, Option, Some, None, is_some}, proofs.{Common.{refl, sym, ap, subst, inl, inr, arith, ◌∙◌}, lemmas.{Bool.{eqb-true, eqb-false}, Option.none-some}}}
use Rattle.hall_types.specs.Rows.{at, numbers, put}
use Rattle.hall_types.specs.declared.change.RowWrite.TheVariants as write
use Rattle.hall_store.specs.Rules.{KeepsMachines}
use Rattle.boot_desk.specs.{EntryLaws.next_is, Fetch.booted}
use Rattle.hall_laws.specs.{Prelude.{applied_append, Hall, applied, pair, written, stage_after, HasRow, HasRowIf, next_number, Rows, at-put-other, at-put-same, put_cases, Boot, RowWrite, Withdrawn, OrderStage, Stage, Machine, Order, AllKeep, KeepsBoots, KeepsOrders, Content, Event, entered-id, entered-order-queued, cleared, new_boot, entry_rows, machine_row, queued_rows, idle, stage_for, IsSound, has-put, operators_stay, some_is, row_at, receipt_of}, Decision.Decided, HallLaws.{applied_entry, boots_first, entered_hall, orders_first, same_receipts}, Writes.{CauseOf, EditsInterfaces, First, IsEditing, IsEntering, IsIdled, IsIssuing, IsMaking, IsNoted, Writes, WritesAll, boot_first, edits_machine, ends_waiting, enters_status, first_rows, issues_boot, machine_goes, makes_machine, notes_report, nothing_first, order_first, with_receipt, withdrawn_at, without_receipt, writes_aside, writes_nothing}}

-- what a hall's machines refer to is recorded, and no two have one UUID
record AreReferred (g : Hall) : Type 0 where
  pools : (id : ℕ) (m : Machine) → at g.machines id ≡ Some m → HasRow g.pools m.pool
  owners : (id : ℕ) (m : Machine) → at g.machines id ≡ Some m → HasRowIf g.operators m.owner
  images : (id : ℕ) (m : Machine) → at g.machines id ≡ Some m → HasRowIf g.images m.image
  uuids : (id other : ℕ) (m n : Machine) (uuid : List ℕ) → at g.machines id ≡ Some m → at g.machines other ≡ Some n → m.uuid ≡ Some uuid → n.uuid ≡ Some uuid → id ≡ other

-- a machine's row keeps the rules if the hall with it is sound
machine_fits : (h g : Hall) (m : Machine) → AreReferred g → g.machines ≡ put m.id m h.machines → g.pools ≡ h.pools → g.operators ≡ h.operators → g.images ≡ h.images → KeepsMachines m h
machine_fits h g m r machines pools operators images = record {
  pool = subst (λ x. HasRow x m.pool) pools (r.pools m.id m here);
  owner = subst (λ x. HasRowIf x m.owner) operators (r.owners m.id m here);
  image = subst (λ x. HasRowIf x m.image) images (r.images m.id m here);
  uuid = λ id other uuid is its own. by id other uuid is its own (id == m.id) refl;
}
  where
    here : at g.machines m.id ≡ Some m
    here = ap (λ x. at x m.id) machines ∙ at-put-same h.machines m.id m

    by : (id : ℕ) (other : Machine) (uuid : List ℕ) → at h.machines id ≡ Some other → other.uuid ≡ Some uuid → m.uuid ≡ Some uuid → (b : Bool) → (id == m.id) ≡ b → id ≡ m.id
    by id other uuid is its own true same = eqb-true id m.id same
    by id other uuid is its own false apart =
        r.uuids id m.id other m uuid (ap (λ x. at x id) machines ∙ (at-put-other h.machines m.id m id (eqb-false id m.id apart) ∙ is)) here its own

boot_fits : (h : Hall) (b : Boot) (stage : Stage) → at h.boots b.number ≡ Some b → HasRow h.machines b.machine → KeepsBoots (record b { stage = stage }) h
boot_fits h b stage is has = record { machine = has; own = λ was there. ap (λ (x : Boot). x.machine) (some_is was b (sym there ∙ is)) }

order_fits : (h : Hall) (o : Order) (stage : OrderStage) → at h.orders o.number ≡ Some o → HasRow h.machines o.machine → KeepsOrders (record o { stage = stage }) h
order_fits h o stage is has = record { machine = has; own = λ was there. ap (λ (x : Order). x.machine) (some_is was o (sym there ∙ is)) }

-- rows that keep the rules, and then others that do
all_keep_append : (vs ws : List RowWrite) (h : Hall) → AllKeep vs h → AllKeep ws (applied vs h) → AllKeep (vs ++ ws) h
all_keep_append [] ws h first then = then
all_keep_append (v ∷ vs) ws h first then = (first.0, all_keep_append vs ws (written v h) first.1 then)

module _ (h : Hall) (s : IsSound h) where
  recorded : (m : Machine) → at h.machines m.id ≡ Some m → (id : ℕ) → id ≡ m.id → HasRow h.machines id
  recorded m found id is = ap (λ x. is_some x) (ap (at h.machines) is ∙ found)

  -- ---- entries

  -- no order has the next number
  order_new : (n : ℕ) → next_number h.last.order ≡ Some n → (o : Order) → at h.orders n ≡ Some o → ⊥
  order_new n next o is = omega (arith, next_is h.last.order n next, s.last_order n (ap (λ x. is_some x) is))

  order_put_new : (n : ℕ) → next_number h.last.order ≡ Some n → (a : Order) (stage : OrderStage) → at h.orders a.number ≡ Some a → (o : Order) → at (put a.number (record a { stage = stage }) h.orders) n ≡ Some o → ⊥
  order_put_new n next a stage there o is = elim (put_cases h.orders a.number (record a { stage = stage }) n o is) [
    | inl w ↦ order_new n next a (ap (at h.orders) w.0 ∙ there)
    | inr w ↦ order_new n next o w.1
  ]

  module _ (e : Event) (moment : ℕ) (rows : List RowWrite) (content : Content) (x : IsEntering h e moment rows content) where
    -- the order that is queued keeps the rules where no order has the next number
    queued_keep : (boots : Rows numbers Boot) (orders : Rows numbers Order) → ((n : ℕ) → next_number h.last.order ≡ Some n → (o : Order) → at orders n ≡ Some o → ⊥) → (q : Option Order) → x.new.order ≡ q
        → AllKeep (queued_rows q x.new.numbers) (record h { machines = put x.new.machine.id x.new.machine h.machines; boots = boots; orders = orders })
    queued_keep boots orders new None is = tt
    queued_keep boots orders new (Some q) is =
        let queue = entered-order-queued x.entering x.step moment h.last x.new x.enters q is in
        let own : q.machine ≡ x.new.machine.id = queue.machine ∙ sym (entered-id x.entering x.step moment h.last x.new x.enters) in (
          record {
            machine = ap (λ o. is_some o) (ap (at (put x.new.machine.id x.new.machine h.machines)) own ∙ at-put-same h.machines x.new.machine.id x.new.machine);
            own = λ was there. absurd (new q.number queue.number was there);
          },
          (tt, tt),
        )

    -- the machine's row, the order that is withdrawn, and the order that is queued
    entry_keep : (boots : Rows numbers Boot) (orders : Rows numbers Order) → KeepsMachines x.new.machine (record h { boots = boots; orders = orders })
        → (withdrawn : Option Order) → ((o : Order) → withdrawn ≡ Some o → (at orders o.number ≡ Some o) × HasRow h.machines o.machine)
        → ((n : ℕ) → next_number h.last.order ≡ Some n → (o : Order) → at (cleared withdrawn orders) n ≡ Some o → ⊥)
        → AllKeep (entry_rows x.machine withdrawn x.new) (record h { boots = boots; orders = orders })
    entry_keep boots orders fits None waits new = (fits, queued_keep boots orders new x.new.order refl)
    entry_keep boots orders fits (Some o) waits new =
        let w = waits o refl in (
          fits,
          (
            order_fits (record h { machines = put x.new.machine.id x.new.machine h.machines; boots = boots; orders = orders }) o Withdrawn w.0
                (has-put h.machines x.new.machine.id x.new.machine o.machine w.1),
            queued_keep boots (cleared (Some o) orders) new x.new.order refl,
          ),
        )

    -- the order that a machine waits for
    waiting_order : (o : Order) → row_at h.orders x.machine.waiting ≡ Some o → (at h.orders o.number ≡ Some o) × HasRow h.machines o.machine
    waiting_order o is = by x.machine.waiting is
      where
        by : (n : Option ℕ) → row_at h.orders n ≡ Some o → (at h.orders o.number ≡ Some o) × HasRow h.machines o.machine
        by None is = cc
        by (Some n) is = (ap (at h.orders) (s.keyed.orders n o is) ∙ is, s.order_machines n o is)

    waiting_new : (n : ℕ) → next_number h.last.order ≡ Some n → (o : Order) → at (cleared (row_at h.orders x.machine.waiting) h.orders) n ≡ Some o → ⊥
    waiting_new n next o is = by (row_at h.orders x.machine.waiting) refl is
      where
        by : (w : Option Order) → row_at h.orders x.machine.waiting ≡ w → at (cleared w h.orders) n ≡ Some o → ⊥
        by None waits is = order_new n next o is
        by (Some a) waits is = order_put_new n next a Withdrawn (waiting_order a waits).0 o is

    entering_keep : AreReferred (applied rows h) → AllKeep rows h
    entering_keep r =
        subst (λ ws. AllKeep ws h) (sym x.rows_are)
        (by x.first x.cause (subst AreReferred (ap (λ ws. applied ws h) x.rows_are ∙ applied_entry h x.first x.machine (withdrawn_at h x.machine x.first) x.new) r))
      where
        fits : (first : First) → AreReferred (entered_hall h first (withdrawn_at h x.machine first) x.new) → KeepsMachines x.new.machine (record h { boots = boots_first first h.boots; orders = orders_first first h.orders })
        fits first r =
            machine_fits (record h { boots = boots_first first h.boots; orders = orders_first first h.orders }) (entered_hall h first (withdrawn_at h x.machine first) x.new) x.new.machine r refl refl refl refl

        by : (first : First) → CauseOf h e moment content x.machine x.entering x.signal first → AreReferred (entered_hall h first (withdrawn_at h x.machine first) x.new)
            → AllKeep (first_rows first ++ entry_rows x.machine (withdrawn_at h x.machine first) x.new) h
        by nothing_first cause r = entry_keep h.boots h.orders (fits nothing_first r) (row_at h.orders x.machine.waiting) waiting_order waiting_new
        by (boot_first b progress) cause r = (
          boot_fits h b (stage_after progress) cause.2.recorded (recorded x.machine x.found b.machine cause.2.its),
          entry_keep (boots_first (boot_first b progress) h.boots) h.orders (fits (boot_first b progress) r) (row_at h.orders x.machine.waiting) waiting_order waiting_new,
        )
        by (order_first o outcome) cause r = (
          order_fits h o (stage_for outcome) cause.2.recorded (recorded x.machine x.found o.machine cause.2.its),
          entry_keep h.boots (orders_first (order_first o outcome) h.orders) (fits (order_first o outcome) r) None (λ a is. absurd (none-some a is)) (λ n next a is. order_put_new n next o (stage_for outcome) cause.2.recorded a is),
        )

  -- ---- the other ways

  making_keep : (rows : List RowWrite) → IsMaking h rows → AreReferred (applied rows h) → AllKeep rows h
  making_keep rows x r =
      subst (λ ws. AllKeep ws h) (sym x.rows_are) (
        machine_fits h (applied (write.PutMachine x.machine None ∷ write.PutInterface x.interface ∷ write.PutNumbers (record h.last { machine = x.machine.id }) ∷ []) h) x.machine
            (subst AreReferred (ap (λ ws. applied ws h) x.rows_are) r) refl refl refl refl,
        (record { new = x.free; machine = ap (λ o. is_some o) (ap (at (put x.machine.id x.machine h.machines)) x.its ∙ at-put-same h.machines x.machine.id x.machine) }, (tt, tt)),
      )

  issuing_keep : (e : Event) (fresh : List ℕ) (rows : List RowWrite) → IsIssuing h e fresh rows → AreReferred (applied rows h) → AllKeep rows h
  issuing_keep e fresh rows x r =
      subst (λ ws. AllKeep ws h) (sym x.rows_are) (
        machine_fits h (record h { machines = put x.machine.id (booted x.number x.machine) h.machines; boots = put x.number (new_boot x.number x.machine x.purpose fresh) h.boots; last = record h.last { boot = x.number } }) (booted x.number x.machine)
            (subst AreReferred (ap (λ ws. applied ws h) x.rows_are) r) refl refl refl refl,
        (
          record {
            machine = has-put h.machines x.machine.id (booted x.number x.machine) x.machine.id (recorded x.machine x.found x.machine.id refl);
            own = λ was there. absurd (new was there);
          },
          (tt, tt),
        ),
      )
    where
      new : (b : Boot) → at h.boots x.number ≡ Some b → ⊥
      new b is = omega (arith, next_is h.last.boot x.number x.next, s.last_boot x.number (ap (λ o. is_some o) is))

  noted_keep : (e : Event) (rows : List RowWrite) (content : Content) → IsNoted h e rows content → AllKeep rows h
  noted_keep e rows content x =
      subst (λ ws. AllKeep ws h) (sym x.rows_are)
      (boot_fits h x.boot (stage_after x.progress) x.cause.recorded (recorded x.machine x.found x.boot.machine x.cause.its), tt)

  idled_keep : (e : Event) (rows : List RowWrite) (content : Content) → IsIdled h e rows content → AreReferred (applied rows h) → AllKeep rows h
  idled_keep e rows content x r =
      let o' = record x.order { stage = stage_for x.outcome } in
      let after = applied (write.PutOrder o' ∷ machine_row x.machine (idle x.machine) ∷ []) h in
      subst (λ ws. AllKeep ws h) (sym x.rows_are) (
        order_fits h x.order (stage_for x.outcome) x.cause.recorded (recorded x.machine x.found x.order.machine x.cause.its),
        (machine_fits (record h { orders = put x.order.number o' h.orders }) after (idle x.machine) (subst AreReferred (ap (λ ws. applied ws h) x.rows_are) r) refl refl refl refl, tt),
      )

  editing_keep : (rows : List RowWrite) → IsEditing h rows → AreReferred (applied rows h) → AllKeep rows h
  editing_keep rows x r =
      subst (λ ws. AllKeep ws h) (sym x.rows_are) (by x.interfaces x.edits (subst AreReferred (ap (λ ws. applied ws h) x.rows_are) r))
    where
      by : (ws : List RowWrite) → EditsInterfaces h x.machine ws → AreReferred (applied (machine_row x.machine x.after ∷ ws) h) → AllKeep (machine_row x.machine x.after ∷ ws) h
      by [] edits r = (machine_fits h (applied (machine_row x.machine x.after ∷ []) h) x.after r refl refl refl refl, tt)
      by (write.PutInterface i ∷ []) edits r = (
        machine_fits h (applied (machine_row x.machine x.after ∷ write.PutInterface i ∷ []) h) x.after r refl refl refl refl,
        (record { new = edits.0; machine = has-put h.machines x.after.id x.after i.machine (recorded x.machine x.found i.machine edits.1) }, tt),
      )
      by (write.InterfaceGone mac ∷ []) edits r =
          (machine_fits h (applied (machine_row x.machine x.after ∷ write.InterfaceGone mac ∷ []) h) x.after r refl refl refl refl, (tt, tt))
      by other edits r = absurd edits

  -- ---- all ways

  writes_keep : (e : Event) (moment : ℕ) (fresh : List ℕ) (rows : List RowWrite) (content : Content) → Writes h e moment fresh rows content → AreReferred (applied rows h) → AllKeep rows h
  writes_keep e moment fresh rows content (writes_nothing quiet is) r = subst (λ ws. AllKeep ws h) (sym is) tt
  writes_keep e moment fresh rows content (makes_machine by x) r = making_keep rows x r
  writes_keep e moment fresh rows content (issues_boot x) r = issuing_keep e fresh rows x r
  writes_keep e moment fresh rows content (enters_status x) r = entering_keep e moment rows content x r
  writes_keep e moment fresh rows content (notes_report x) r = noted_keep e rows content x
  writes_keep e moment fresh rows content (ends_waiting x) r = idled_keep e rows content x r
  writes_keep e moment fresh rows content (edits_machine by x) r = editing_keep rows x r
  writes_keep e moment fresh rows content (machine_goes id by is) r = subst (λ ws. AllKeep ws h) (sym is) (tt, tt)
  writes_keep e moment fresh rows content (writes_aside by x) r = subst (λ ws. AllKeep ws h) (sym x.rows_are) (x.keeps, tt)

  -- ---- receipts

  referred : (g : Hall) → IsSound g → AreReferred g
  referred g sound = record { pools = sound.machine_pools; owners = sound.machine_owners; images = sound.machine_images; uuids = sound.uuids }

  -- the rows of a decision that leaves the hall sound keep the rules
  pub decided_keep : (e : Event) (moment : ℕ) (fresh : List ℕ) (d : Decided) → WritesAll h e moment fresh d → IsSound (applied d.rows h) → AllKeep d.rows h
  decided_keep e moment fresh d (without_receipt none w) sound = writes_keep e moment fresh d.rows d.content w (referred (applied d.rows h) sound)
  decided_keep e moment fresh d (with_receipt own w x) sound =
      let r = receipt_of x.operator x.key x.command d.content in
      let after = subst IsSound (ap (λ ws. applied ws h) x.rows_are ∙ applied_append own (write.PutReceipt r ∷ []) h) sound in
      subst (λ ws. AllKeep ws h) (sym x.rows_are)
      (all_keep_append own (write.PutReceipt r ∷ []) h
      (writes_keep e moment fresh own d.content w (record { pools = after.machine_pools; owners = after.machine_owners; images = after.machine_images; uuids = after.uuids })) (
        record {
          new = ap (λ rows. at rows (pair x.operator.name x.key)) (same_receipts h e moment fresh own d.content w) ∙ x.new;
          operator = operators_stay own h x.operator.name (ap (λ o. is_some o) x.recorded);
        },
        tt,
      ))
