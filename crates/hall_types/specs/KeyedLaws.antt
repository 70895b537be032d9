-- Rows stand under their own keys in a new hall, and after each row write.
use Rattle.std.{proofs.Common.{◌≡◌, refl, ℕ, Bool, true, not, List, [], ◌∷◌, sym, ap, ◌∙◌, inl, inr}, specs.Prelude.◌==◌}
use Rattle.hall_types.specs.{Kinds.arch_number, Rows.{Keys, Rows, put, gone, no_rows, rows_where}, RowLaws.{at-no_rows, put_cases, gone_found, where_found}, Hall.{Schema, Hall, applied, written, new_hall, default_pool, pair}, Image.BootImage, declared.{kinds.Role.TheVariants.Admin, change.RowWrite.{RowWrite, TheVariants.{PutOperator, PutPool, PutMember, PutImage, ImageGone, PutLive, PutMachine, MachineGone, PutInterface, InterfaceGone, PutBoot, PutOrder, PutReceipt, PutNumbers}}}, Keyed.{StandUnder, IsKeyed}}

module _ {K X : Type 0} {keys : Keys K} where
  pub under-no_rows : (key_of : X → K) (rows : Rows keys X) → rows ≡ no_rows → StandUnder key_of rows
  under-no_rows key_of rows none key row is = let e = at-no_rows keys key rows none in cc

  pub under-put : (key_of : X → K) (rows : Rows keys X) (row : X) → StandUnder key_of rows → StandUnder key_of (put (key_of row) row rows)
  under-put key_of rows row under key x is = elim (put_cases rows (key_of row) row key x is) [ inl w ↦ ap key_of w.1 ∙ sym w.0 | inr w ↦ under key x w.1 ]

  pub under-gone : (key_of : X → K) (rows : Rows keys X) (key : K) → StandUnder key_of rows → StandUnder key_of (gone key rows)
  under-gone key_of rows key under other row is = under other row (gone_found rows key other row is).1

  pub under-where : (key_of : X → K) (p : X → Bool) (rows : Rows keys X) → StandUnder key_of rows → StandUnder key_of (rows_where p rows)
  under-where key_of p rows under key row is = under key row (where_found p rows key row is).0

pub keyed-new_hall : (schema : Schema) (admin digest : List ℕ) → IsKeyed (new_hall schema admin digest)
keyed-new_hall schema admin digest = record {
  operators = under-put (λ o. o.name) no_rows (record { name = admin; role = Admin; digest = digest; enabled = true }) (under-no_rows (λ o. o.name) no_rows refl);
  pools = under-put (λ p. p.name) no_rows (record { name = default_pool }) (under-no_rows (λ p. p.name) no_rows refl);
  members = under-no_rows (λ m. pair m.pool m.operator) no_rows refl;
  images = under-no_rows (λ (i : BootImage). i.name) no_rows refl;
  lives = under-no_rows (λ l. arch_number l.arch) no_rows refl;
  machines = under-no_rows (λ m. m.id) no_rows refl;
  interfaces = under-no_rows (λ i. i.mac) no_rows refl;
  boots = under-no_rows (λ b. b.number) no_rows refl;
  orders = under-no_rows (λ o. o.number) no_rows refl;
  receipts = under-no_rows (λ r. pair r.operator r.key) no_rows refl;
}

pub keyed-written : (w : RowWrite) (h : Hall) → IsKeyed h → IsKeyed (written w h)
keyed-written (PutOperator o) h under = record { operators = under-put (λ o. o.name) h.operators o under.operators; pools = under.pools; members = under.members; images = under.images; lives = under.lives; machines = under.machines; interfaces = under.interfaces; boots = under.boots; orders = under.orders; receipts = under.receipts }
keyed-written (PutPool p) h under = record { operators = under.operators; pools = under-put (λ p. p.name) h.pools p under.pools; members = under.members; images = under.images; lives = under.lives; machines = under.machines; interfaces = under.interfaces; boots = under.boots; orders = under.orders; receipts = under.receipts }
keyed-written (PutMember m) h under = record { operators = under.operators; pools = under.pools; members = under-put (λ m. pair m.pool m.operator) h.members m under.members; images = under.images; lives = under.lives; machines = under.machines; interfaces = under.interfaces; boots = under.boots; orders = under.orders; receipts = under.receipts }
keyed-written (PutImage i) h under = record { operators = under.operators; pools = under.pools; members = under.members; images = under-put (λ (i : BootImage). i.name) h.images i under.images; lives = under.lives; machines = under.machines; interfaces = under.interfaces; boots = under.boots; orders = under.orders; receipts = under.receipts }
keyed-written (ImageGone name) h under = record { operators = under.operators; pools = under.pools; members = under.members; images = under-gone (λ (i : BootImage). i.name) h.images name under.images; lives = under.lives; machines = under.machines; interfaces = under.interfaces; boots = under.boots; orders = under.orders; receipts = under.receipts }
keyed-written (PutLive l) h under = record { operators = under.operators; pools = under.pools; members = under.members; images = under.images; lives = under-put (λ l. arch_number l.arch) h.lives l under.lives; machines = under.machines; interfaces = under.interfaces; boots = under.boots; orders = under.orders; receipts = under.receipts }
keyed-written (PutMachine m was) h under = record { operators = under.operators; pools = under.pools; members = under.members; images = under.images; lives = under.lives; machines = under-put (λ m. m.id) h.machines m under.machines; interfaces = under.interfaces; boots = under.boots; orders = under.orders; receipts = under.receipts }
keyed-written (MachineGone id) h under = record { operators = under.operators; pools = under.pools; members = under.members; images = under.images; lives = under.lives; machines = under-gone (λ m. m.id) h.machines id under.machines; interfaces = under-where (λ i. i.mac) (λ row. not (row.machine == id)) h.interfaces under.interfaces; boots = under-where (λ b. b.number) (λ row. not (row.machine == id)) h.boots under.boots; orders = under-where (λ o. o.number) (λ row. not (row.machine == id)) h.orders under.orders; receipts = under.receipts }
keyed-written (PutInterface i) h under = record { operators = under.operators; pools = under.pools; members = under.members; images = under.images; lives = under.lives; machines = under.machines; interfaces = under-put (λ i. i.mac) h.interfaces i under.interfaces; boots = under.boots; orders = under.orders; receipts = under.receipts }
keyed-written (InterfaceGone mac) h under = record { operators = under.operators; pools = under.pools; members = under.members; images = under.images; lives = under.lives; machines = under.machines; interfaces = under-gone (λ i. i.mac) h.interfaces mac under.interfaces; boots = under.boots; orders = under.orders; receipts = under.receipts }
keyed-written (PutBoot b) h under = record { operators = under.operators; pools = under.pools; members = under.members; images = under.images; lives = under.lives; machines = under.machines; interfaces = under.interfaces; boots = under-put (λ b. b.number) h.boots b under.boots; orders = under.orders; receipts = under.receipts }
keyed-written (PutOrder o) h under = record { operators = under.operators; pools = under.pools; members = under.members; images = under.images; lives = under.lives; machines = under.machines; interfaces = under.interfaces; boots = under.boots; orders = under-put (λ o. o.number) h.orders o under.orders; receipts = under.receipts }
keyed-written (PutReceipt r) h under = record { operators = under.operators; pools = under.pools; members = under.members; images = under.images; lives = under.lives; machines = under.machines; interfaces = under.interfaces; boots = under.boots; orders = under.orders; receipts = under-put (λ r. pair r.operator r.key) h.receipts r under.receipts }
keyed-written (PutNumbers n) h under = record { operators = under.operators; pools = under.pools; members = under.members; images = under.images; lives = under.lives; machines = under.machines; interfaces = under.interfaces; boots = under.boots; orders = under.orders; receipts = under.receipts }

-- so is a hall after several writes
pub keyed-applied : (rows : List RowWrite) (h : Hall) → IsKeyed h → IsKeyed (applied rows h)
keyed-applied [] h under = under
keyed-applied (w ∷ ws) h under = keyed-applied ws (written w h) (keyed-written w h under)
