-- What a hall is after a decision's rows.
use Rattle.std.{specs.Prelude.{◌≡◌, ◌++◌, ℕ, List, [], ◌∷◌, Option, Some, None}, proofs.Common.{refl, sym, ap, subst}}
use Rattle.hall_types.specs.Rows.{numbers, put}
use Rattle.hall_types.specs.declared.change.RowWrite.TheVariants as write
use Rattle.hall_laws.specs.{Prelude.{Hall, applied, written, stage_after, Rows, Boot, RowWrite, Machine, Numbers, Order, Content, Event, Entered, cleared, entry_rows, machine_row, stage_for}, Writes.{EditsInterfaces, First, IsOfNoMachine, Writes, boot_first, edits_machine, ends_waiting, enters_status, first_rows, issues_boot, machine_goes, makes_machine, notes_report, nothing_first, order_first, withdrawn_at, writes_aside, writes_nothing}}

-- the boots after what is written first
abbrev pub boots_first : First → Rows numbers Boot → Rows numbers Boot
boots_first nothing_first boots = boots
boots_first (boot_first b progress) boots = put b.number (record b { stage = stage_after progress }) boots
boots_first (order_first o outcome) boots = boots

-- the orders after what is written first
abbrev pub orders_first : First → Rows numbers Order → Rows numbers Order
orders_first nothing_first orders = orders
orders_first (boot_first b progress) orders = orders
orders_first (order_first o outcome) orders = put o.number (record o { stage = stage_for outcome }) orders

-- the orders with the one that is queued
abbrev pub queued : Option Order → Rows numbers Order → Rows numbers Order
queued None orders = orders
queued (Some o) orders = put o.number o orders

-- the last numbers are written where an order is queued
abbrev pub last_queued : Option Order → Numbers → Numbers → Numbers
last_queued None last more = last
last_queued (Some o) last more = more

abbrev pub entered_hall : Hall → First → Option Order → Entered → Hall
entered_hall h first withdrawn new = record h {
  machines = put new.machine.id new.machine h.machines;
  boots = boots_first first h.boots;
  orders = queued new.order (cleared withdrawn (orders_first first h.orders));
  last = last_queued new.order h.last new.numbers;
}

-- the hall after the rows of an entry
pub applied_entry : (h : Hall) (first : First) (m : Machine) (withdrawn : Option Order) (new : Entered) → applied (first_rows first ++ entry_rows m withdrawn new) h ≡ entered_hall h first withdrawn new
applied_entry h first m withdrawn new = by first withdrawn new.order
  where
    by : (first : First) (withdrawn order : Option Order)
        → applied (first_rows first ++ entry_rows m withdrawn (record new { order = order })) h ≡ entered_hall h first withdrawn (record new { order = order })
    by nothing_first None None = refl
    by nothing_first None (Some q) = refl
    by nothing_first (Some o) None = refl
    by nothing_first (Some o) (Some q) = refl
    by (boot_first b progress) None None = refl
    by (boot_first b progress) None (Some q) = refl
    by (boot_first b progress) (Some o) None = refl
    by (boot_first b progress) (Some o) (Some q) = refl
    by (order_first a outcome) None None = refl
    by (order_first a outcome) None (Some q) = refl
    by (order_first a outcome) (Some o) None = refl
    by (order_first a outcome) (Some o) (Some q) = refl

-- a machine that is edited changes no table but those of machines and interfaces
pub edited_hall : (h : Hall) (m after : Machine) (ws : List RowWrite) → EditsInterfaces h m ws
    → applied (machine_row m after ∷ ws) h ≡ record h { machines = put after.id after h.machines; interfaces = (applied ws h).interfaces }
edited_hall h m after [] edits = refl
edited_hall h m after (write.PutInterface i ∷ []) edits = refl
edited_hall h m after (write.InterfaceGone mac ∷ []) edits = refl
edited_hall h m after other edits = absurd edits

-- a row of no machine changes none of what machines have, no receipt and no last number
pub aside_hall : (h : Hall) (e : Event) (row : RowWrite) → IsOfNoMachine row h e
    → written row h ≡ record (written row h) { machines = h.machines; interfaces = h.interfaces; boots = h.boots; orders = h.orders; receipts = h.receipts; last = h.last }
aside_hall h e (write.PutOperator o) aside = refl
aside_hall h e (write.PutPool p) aside = refl
aside_hall h e (write.PutMember m) aside = refl
aside_hall h e (write.PutImage i) aside = refl
aside_hall h e (write.ImageGone name) aside = refl
aside_hall h e (write.PutLive l) aside = refl
aside_hall h e other aside = absurd aside

-- none of the ways writes a receipt
pub same_receipts : (h : Hall) (e : Event) (moment : ℕ) (fresh : List ℕ) (rows : List RowWrite) (content : Content) → Writes h e moment fresh rows content → (applied rows h).receipts ≡ h.receipts
same_receipts h e moment fresh rows content w = after w
  where
    At : List RowWrite → Type 0
    At ws = (applied ws h).receipts ≡ h.receipts

    after : Writes h e moment fresh rows content → At rows
    after (writes_nothing quiet is) = subst At (sym is) refl
    after (makes_machine by x) = subst At (sym x.rows_are) refl
    after (issues_boot x) = subst At (sym x.rows_are) refl
    after (enters_status x) = subst At (sym x.rows_are) (ap (λ (g : Hall). g.receipts) (applied_entry h x.first x.machine (withdrawn_at h x.machine x.first) x.new))
    after (notes_report x) = subst At (sym x.rows_are) refl
    after (ends_waiting x) = subst At (sym x.rows_are) refl
    after (edits_machine by x) = subst At (sym x.rows_are) (ap (λ (g : Hall). g.receipts) (edited_hall h x.machine x.after x.interfaces x.edits))
    after (machine_goes id by is) = subst At (sym is) refl
    after (writes_aside by x) = subst At (sym x.rows_are) (ap (λ (g : Hall). g.receipts) (aside_hall h e x.row x.aside))
