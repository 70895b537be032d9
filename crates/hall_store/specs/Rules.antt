-- The tables' rules: when a row may be written.
use Rattle.std.specs.Prelude.{◌≡◌, ℕ, false, ⊤, List, [], ◌∷◌, Some, None}
use Rattle.hall_types.specs.{Hall.{Hall, pair, written}, Lookup.{HasRow, HasRowIf, is_image_used}, Rows.{Keys, Rows, at}, declared.{boot.Boot.Boot, change.RowWrite.{RowWrite, TheVariants.{PutOperator, PutPool, PutMember, PutImage, ImageGone, PutLive, PutMachine, PutInterface, PutBoot, PutOrder, PutReceipt}}, machine.{Interface.Interface, Machine.Machine}, operator.{Member.Member, Operator.Operator}, order.Order.Order, receipt.Receipt.Receipt}}

-- no row has this key
abbrev pub IsFree : {K X : Type 0} {keys : Keys K} → Rows keys X → K → Type 0
IsFree rows key = at rows key ≡ None

-- no other operator has the digest
abbrev pub KeepsOperators : Operator → Hall → Type 0
KeepsOperators o h = (name : List ℕ) (other : Operator) → at h.operators name ≡ Some other → other.digest ≡ o.digest → name ≡ o.name

-- a member is new, and its pool and its operator are recorded
pub record KeepsMembers (m : Member) (h : Hall) : Type 0 where
  pub new : IsFree h.members (pair m.pool m.operator)
  pub pool : HasRow h.pools m.pool
  pub operator : HasRow h.operators m.operator

-- a machine's pool is recorded, and its owner and its image if it has any, and no other machine has its UUID
pub record KeepsMachines (m : Machine) (h : Hall) : Type 0 where
  pub pool : HasRow h.pools m.pool
  pub owner : HasRowIf h.operators m.owner
  pub image : HasRowIf h.images m.image
  pub uuid : (id : ℕ) (other : Machine) (uuid : List ℕ) → at h.machines id ≡ Some other → other.uuid ≡ Some uuid → m.uuid ≡ Some uuid → id ≡ m.id

-- an interface is new, and its machine is recorded
pub record KeepsInterfaces (i : Interface) (h : Hall) : Type 0 where
  pub new : IsFree h.interfaces i.mac
  pub machine : HasRow h.machines i.machine

-- a boot's machine is recorded, and a boot that is there already is the same machine's
pub record KeepsBoots (b : Boot) (h : Hall) : Type 0 where
  pub machine : HasRow h.machines b.machine
  pub own : (was : Boot) → at h.boots b.number ≡ Some was → was.machine ≡ b.machine

-- an order's machine is recorded, and an order that is there already is the same machine's
pub record KeepsOrders (o : Order) (h : Hall) : Type 0 where
  pub machine : HasRow h.machines o.machine
  pub own : (was : Order) → at h.orders o.number ≡ Some was → was.machine ≡ o.machine

-- a receipt is new, and its operator is recorded
pub record KeepsReceipts (r : Receipt) (h : Hall) : Type 0 where
  pub new : IsFree h.receipts (pair r.operator r.key)
  pub operator : HasRow h.operators r.operator

-- the row write keeps the rules: pools, members, images, interfaces and receipts are only ever new, what a row refers to
-- is recorded, and an image that goes isn't referred to
abbrev pub Keeps : RowWrite → Hall → Type 0
Keeps (PutOperator o) h = KeepsOperators o h
Keeps (PutPool p) h = IsFree h.pools p.name
Keeps (PutMember m) h = KeepsMembers m h
Keeps (PutImage i) h = IsFree h.images i.name
Keeps (ImageGone name) h = is_image_used h name ≡ false
Keeps (PutLive l) h = HasRow h.images l.image
Keeps (PutMachine m was) h = KeepsMachines m h
Keeps (PutInterface i) h = KeepsInterfaces i h
Keeps (PutBoot b) h = KeepsBoots b h
Keeps (PutOrder o) h = KeepsOrders o h
Keeps (PutReceipt r) h = KeepsReceipts r h
Keeps w h = ⊤

-- each row write keeps the rules in the hall that those before it left
abbrev pub AllKeep : List RowWrite → Hall → Type 0
AllKeep [] h = ⊤
AllKeep (w ∷ ws) h = Keeps w h × AllKeep ws (written w h)
