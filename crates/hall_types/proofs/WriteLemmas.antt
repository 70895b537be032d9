-- What row writes change and leave.
use Rattle.std.proofs.Common.{◌≡◌, refl, ◌∙◌}
use Rattle.hall_types.specs.{Rows.{Keys, Rows, put, gone, no_rows}, RowLaws.{at-put-same, at-put-other, at-gone-same, at-gone-other, at-no_rows}, Hall.{Hall, written}, declared.change.RowWrite.{RowWrite, TheVariants.{PutOperator, PutPool, PutMember, PutImage, ImageGone, PutLive, PutMachine, MachineGone, PutInterface, InterfaceGone, PutBoot, PutOrder, PutReceipt, PutNumbers}}, Tables.{ChangesOnly, tables_of, IsPut, IsGone, IsSole, HasNone}}

pub changes_only : (w : RowWrite) (h : Hall) → ChangesOnly (tables_of w) h (written w h)
changes_only (PutOperator o) h = record { schema = refl; operators = λ e. cc; pools = λ e. refl; members = λ e. refl; images = λ e. refl; lives = λ e. refl; machines = λ e. refl; interfaces = λ e. refl; boots = λ e. refl; orders = λ e. refl; receipts = λ e. refl; last = λ e. refl }
changes_only (PutPool p) h = record { schema = refl; operators = λ e. refl; pools = λ e. cc; members = λ e. refl; images = λ e. refl; lives = λ e. refl; machines = λ e. refl; interfaces = λ e. refl; boots = λ e. refl; orders = λ e. refl; receipts = λ e. refl; last = λ e. refl }
changes_only (PutMember m) h = record { schema = refl; operators = λ e. refl; pools = λ e. refl; members = λ e. cc; images = λ e. refl; lives = λ e. refl; machines = λ e. refl; interfaces = λ e. refl; boots = λ e. refl; orders = λ e. refl; receipts = λ e. refl; last = λ e. refl }
changes_only (PutImage i) h = record { schema = refl; operators = λ e. refl; pools = λ e. refl; members = λ e. refl; images = λ e. cc; lives = λ e. refl; machines = λ e. refl; interfaces = λ e. refl; boots = λ e. refl; orders = λ e. refl; receipts = λ e. refl; last = λ e. refl }
changes_only (ImageGone name) h = record { schema = refl; operators = λ e. refl; pools = λ e. refl; members = λ e. refl; images = λ e. cc; lives = λ e. refl; machines = λ e. refl; interfaces = λ e. refl; boots = λ e. refl; orders = λ e. refl; receipts = λ e. refl; last = λ e. refl }
changes_only (PutLive l) h = record { schema = refl; operators = λ e. refl; pools = λ e. refl; members = λ e. refl; images = λ e. refl; lives = λ e. cc; machines = λ e. refl; interfaces = λ e. refl; boots = λ e. refl; orders = λ e. refl; receipts = λ e. refl; last = λ e. refl }
changes_only (PutMachine m was) h = record { schema = refl; operators = λ e. refl; pools = λ e. refl; members = λ e. refl; images = λ e. refl; lives = λ e. refl; machines = λ e. cc; interfaces = λ e. refl; boots = λ e. refl; orders = λ e. refl; receipts = λ e. refl; last = λ e. refl }
changes_only (MachineGone id) h = record { schema = refl; operators = λ e. refl; pools = λ e. refl; members = λ e. refl; images = λ e. refl; lives = λ e. refl; machines = λ e. cc; interfaces = λ e. cc; boots = λ e. cc; orders = λ e. cc; receipts = λ e. refl; last = λ e. refl }
changes_only (PutInterface i) h = record { schema = refl; operators = λ e. refl; pools = λ e. refl; members = λ e. refl; images = λ e. refl; lives = λ e. refl; machines = λ e. refl; interfaces = λ e. cc; boots = λ e. refl; orders = λ e. refl; receipts = λ e. refl; last = λ e. refl }
changes_only (InterfaceGone mac) h = record { schema = refl; operators = λ e. refl; pools = λ e. refl; members = λ e. refl; images = λ e. refl; lives = λ e. refl; machines = λ e. refl; interfaces = λ e. cc; boots = λ e. refl; orders = λ e. refl; receipts = λ e. refl; last = λ e. refl }
changes_only (PutBoot b) h = record { schema = refl; operators = λ e. refl; pools = λ e. refl; members = λ e. refl; images = λ e. refl; lives = λ e. refl; machines = λ e. refl; interfaces = λ e. refl; boots = λ e. cc; orders = λ e. refl; receipts = λ e. refl; last = λ e. refl }
changes_only (PutOrder o) h = record { schema = refl; operators = λ e. refl; pools = λ e. refl; members = λ e. refl; images = λ e. refl; lives = λ e. refl; machines = λ e. refl; interfaces = λ e. refl; boots = λ e. refl; orders = λ e. cc; receipts = λ e. refl; last = λ e. refl }
changes_only (PutReceipt r) h = record { schema = refl; operators = λ e. refl; pools = λ e. refl; members = λ e. refl; images = λ e. refl; lives = λ e. refl; machines = λ e. refl; interfaces = λ e. refl; boots = λ e. refl; orders = λ e. refl; receipts = λ e. cc; last = λ e. refl }
changes_only (PutNumbers n) h = record { schema = refl; operators = λ e. refl; pools = λ e. refl; members = λ e. refl; images = λ e. refl; lives = λ e. refl; machines = λ e. refl; interfaces = λ e. refl; boots = λ e. refl; orders = λ e. refl; receipts = λ e. refl; last = λ e. cc }

module _ {K X : Type 0} {keys : Keys K} where
  pub is_put : (rows : Rows keys X) (key : K) (row : X) → IsPut rows (put key row rows) key row
  is_put rows key row = record { there = at-put-same rows key row; others = λ other apart. at-put-other rows key row other apart }

  pub is_gone : (rows : Rows keys X) (key : K) → IsGone rows (gone key rows) key
  is_gone rows key = record { gone = at-gone-same rows key; others = λ other apart. at-gone-other rows key other apart }

  pub has_none : (rows : Rows keys X) → rows ≡ no_rows → HasNone rows
  has_none rows is key = at-no_rows keys key rows is

  pub is_sole : (key : K) (row : X) → IsSole (put {keys = keys} key row no_rows) key row
  is_sole key row = record { there = at-put-same no_rows key row; others = λ other apart. at-put-other no_rows key row other apart ∙ at-no_rows keys other no_rows refl }
