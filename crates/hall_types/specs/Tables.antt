-- Which tables of a hall a row write changes, and what it leaves there.
use Rattle.std.specs.{Prelude.{◌≡◌, ◌≢◌, ℕ, ◌==◌, Bool, false, List, [], ◌∷◌, Some, None}, List.list_any}
use Rattle.hall_types.specs.{Rows.{Keys, Rows, at}, Hall.Hall, declared.change.RowWrite.RowWrite}
use Rattle.hall_types.specs.declared.change.RowWrite.TheVariants as write

pub data Table : Type 0 where
  operators : Table
  pools : Table
  members : Table
  images : Table
  lives : Table
  machines : Table
  interfaces : Table
  boots : Table
  orders : Table
  receipts : Table
  last_numbers : Table

abbrev pub table_number : Table → ℕ
table_number operators = 0
table_number pools = 1
table_number members = 2
table_number images = 3
table_number lives = 4
table_number machines = 5
table_number interfaces = 6
table_number boots = 7
table_number orders = 8
table_number receipts = 9
table_number last_numbers = 10

abbrev pub is_among : Table → List Table → Bool
is_among table tables = list_any (λ other. table_number other == table_number table) tables

-- a machine goes with its interfaces, boots and orders; every other write is to one table
abbrev pub tables_of : RowWrite → List Table
tables_of (write.PutOperator o) = operators ∷ []
tables_of (write.PutPool p) = pools ∷ []
tables_of (write.PutMember m) = members ∷ []
tables_of (write.PutImage i) = images ∷ []
tables_of (write.ImageGone name) = images ∷ []
tables_of (write.PutLive l) = lives ∷ []
tables_of (write.PutMachine m was) = machines ∷ []
tables_of (write.MachineGone id) = machines ∷ interfaces ∷ boots ∷ orders ∷ []
tables_of (write.PutInterface i) = interfaces ∷ []
tables_of (write.InterfaceGone mac) = interfaces ∷ []
tables_of (write.PutBoot b) = boots ∷ []
tables_of (write.PutOrder o) = orders ∷ []
tables_of (write.PutReceipt r) = receipts ∷ []
tables_of (write.PutNumbers n) = last_numbers ∷ []

-- one hall is like another but for these tables
pub record ChangesOnly (tables : List Table) (h h' : Hall) : Type 0 where
  pub schema : h'.schema ≡ h.schema
  pub operators : is_among operators tables ≡ false → h'.operators ≡ h.operators
  pub pools : is_among pools tables ≡ false → h'.pools ≡ h.pools
  pub members : is_among members tables ≡ false → h'.members ≡ h.members
  pub images : is_among images tables ≡ false → h'.images ≡ h.images
  pub lives : is_among lives tables ≡ false → h'.lives ≡ h.lives
  pub machines : is_among machines tables ≡ false → h'.machines ≡ h.machines
  pub interfaces : is_among interfaces tables ≡ false → h'.interfaces ≡ h.interfaces
  pub boots : is_among boots tables ≡ false → h'.boots ≡ h.boots
  pub orders : is_among orders tables ≡ false → h'.orders ≡ h.orders
  pub receipts : is_among receipts tables ≡ false → h'.receipts ≡ h.receipts
  pub last : is_among last_numbers tables ≡ false → h'.last ≡ h.last

-- this row was put: it stands under its key, and every other key has what it had
pub record IsPut {K X : Type 0} {keys : Keys K} (before after : Rows keys X) (key : K) (row : X) : Type 0 where
  pub there : at after key ≡ Some row
  pub others : (other : K) → other ≢ key → at after other ≡ at before other

-- the row with this key is gone, and every other key has what it had
pub record IsGone {K X : Type 0} {keys : Keys K} (before after : Rows keys X) (key : K) : Type 0 where
  pub gone : at after key ≡ None
  pub others : (other : K) → other ≢ key → at after other ≡ at before other

-- the only row is this one
pub record IsSole {K X : Type 0} {keys : Keys K} (rows : Rows keys X) (key : K) (row : X) : Type 0 where
  pub there : at rows key ≡ Some row
  pub others : (other : K) → other ≢ key → at rows other ≡ None

-- no key has a row
abbrev pub HasNone : {K X : Type 0} {keys : Keys K} → Rows keys X → Type 0
HasNone {K = K} rows = (key : K) → at rows key ≡ None
