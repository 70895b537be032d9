-- A hall: what the desk knows.
use Rattle.std.specs.Prelude.{ℕ, ◌==◌, not, List, [], ◌∷◌, true, codes}
use Rattle.hall_types.specs.{Kinds.arch_number, Rows.{Rows, numbers, texts, pairs, put, gone, no_rows, rows_where}, Image.BootImage, declared.{kinds.Role.TheVariants.Admin, operator.{Operator.Operator, Pool.Pool, Member.Member}, image.Live.Live, machine.{Machine.Machine, Interface.Interface}, boot.Boot.Boot, order.Order.Order, receipt.Receipt.Receipt, number.Numbers.Numbers, change.RowWrite.{RowWrite, TheVariants.{PutOperator, PutPool, PutMember, PutImage, ImageGone, PutLive, PutMachine, MachineGone, PutInterface, InterfaceGone, PutBoot, PutOrder, PutReceipt, PutNumbers}}}}

-- Which tables a hall is kept in. The first schema knows one kind of erasing alone, and doesn't keep it.
pub data Schema : Type 0 where
  first : Schema
  second : Schema

-- operators, pools and images by name, members by pool and operator, live images by their architecture's
-- number, interfaces by address, machines, boots and orders by number, receipts by operator and key
pub record Hall : Type 0 where
  pub schema : Schema
  pub operators : Rows texts Operator
  pub pools : Rows texts Pool
  pub members : Rows pairs Member
  pub images : Rows texts BootImage
  pub lives : Rows numbers Live
  pub machines : Rows numbers Machine
  pub interfaces : Rows texts Interface
  pub boots : Rows numbers Boot
  pub orders : Rows numbers Order
  pub receipts : Rows pairs Receipt
  pub last : Numbers

abbrev pub pair : List ℕ → List ℕ → List (List ℕ)
pair one other = one ∷ other ∷ []

-- ---- a new hall

abbrev pub default_pool : List ℕ
default_pool = codes "default"

-- one enabled admin with this name and this digest of a token, one pool, and no number given out
abbrev pub new_hall : Schema → List ℕ → List ℕ → Hall
new_hall schema admin digest = record {
  schema = schema;
  operators = put admin (record { name = admin; role = Admin; digest = digest; enabled = true }) no_rows;
  pools = put default_pool (record { name = default_pool }) no_rows;
  members = no_rows;
  images = no_rows;
  lives = no_rows;
  machines = no_rows;
  interfaces = no_rows;
  boots = no_rows;
  orders = no_rows;
  receipts = no_rows;
  last = record { machine = 0; boot = 0; order = 0 };
}

-- ---- changes

-- a machine goes with its interfaces, boots and orders
abbrev pub without_machine : ℕ → Hall → Hall
without_machine id h = record h {
  machines = gone id h.machines;
  interfaces = rows_where (λ i. not (i.machine == id)) h.interfaces;
  boots = rows_where (λ b. not (b.machine == id)) h.boots;
  orders = rows_where (λ o. not (o.machine == id)) h.orders;
}

-- the hall after one row was written
abbrev pub written : RowWrite → Hall → Hall
written (PutOperator o) h = record h { operators = put o.name o h.operators }
written (PutPool p) h = record h { pools = put p.name p h.pools }
written (PutMember m) h = record h { members = put (pair m.pool m.operator) m h.members }
written (PutImage i) h = record h { images = put i.name i h.images }
written (ImageGone name) h = record h { images = gone name h.images }
written (PutLive l) h = record h { lives = put (arch_number l.arch) l h.lives }
written (PutMachine m was) h = record h { machines = put m.id m h.machines }
written (MachineGone id) h = without_machine id h
written (PutInterface i) h = record h { interfaces = put i.mac i h.interfaces }
written (InterfaceGone mac) h = record h { interfaces = gone mac h.interfaces }
written (PutBoot b) h = record h { boots = put b.number b h.boots }
written (PutOrder o) h = record h { orders = put o.number o h.orders }
written (PutReceipt r) h = record h { receipts = put (pair r.operator r.key) r h.receipts }
written (PutNumbers n) h = record h { last = n }

-- the hall after the rows were written in turn
abbrev pub applied : List RowWrite → Hall → Hall
applied [] h = h
applied (w ∷ ws) h = applied ws (written w h)
