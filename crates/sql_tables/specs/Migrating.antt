-- The tables of a hall of the first schema, and the hall that they become. The first schema knows one kind of erasing, full, and has no
-- table for it.
use Rattle.sql_schema.specs.Words.{TableName, of_last, of_wipes, described, SpellHall, Null, Int, is_used, Binary, Command, Update, Database, Row, Schema, lit, op2, Trees, IsSound, Compare, Eq, Hall, first, second, Rows, numbers, at, put, listed, Full, Machine, Numbers, Status, DiskErasing, FailedDiskErasing, Wipe, number, cell, from_one, HallRows, only, stage}
use Rattle.std.specs.Prelude.{Bool, true, false, ◌≡◌, ◌⊎◌, ℕ, pos, List, [], ◌∷◌, Some, None, option_map, ⊤, Result, Ok, Err, codes, if◌then◌else◌}
use Rattle.sql_tables.specs.{Creating.without_kinds, Opening.IsAnswerFor, declared.{looking.Wanted.TheVariants.{First, Second}, fault.OpenFault.{OpenFault, TheVariants.{NotAHall, OtherVersion, Unavailable}}, migrating.Migrated.{Migrated, TheVariants.{Already, Now}}}}

-- ---- the first schema

-- all tables but `wipes`, which is the last one made, and all indexes
abbrev pub first_schema : Schema
first_schema = stage 12 12

-- the one row of the last numbers, with the number of the first schema
abbrev pub first_numbers_row : Numbers → Row
first_numbers_row last = number 1 ∷ Null ∷ number 1 ∷ number last.machine ∷ number last.boot ∷ number last.order ∷ []

-- the tables of the first schema but `hall`
abbrev pub is_first : TableName → Bool
is_first of_last = false
is_first of_wipes = false
is_first t = true

-- these have the rows of this hall, in which no machine keeps a kind of erasing
pub record AreFirstRows (db : Trees) (h : Hall) : Type 0 where
  pub each : (t : TableName) → is_first t ≡ true → (described t).stores (db (described t).table.tree) ((described t).held (without_kinds h))
  pub kinds : (id : ℕ) (m : Machine) → at h.machines id ≡ Some m → m.erase ≡ None

-- the trees spell this hall of the first schema
pub record SpellFirst (db : Trees) (h : Hall) : Type 0 where
  -- the trees list the first schema and no other, and obey it
  pub sound : IsSound first_schema db
  pub schema : h.schema ≡ first
  pub last : db 0 ≡ first_numbers_row h.last ∷ []
  pub rows : AreFirstRows db h

-- ---- the hall that is carried over

-- the two statuses in which disks are to be erased, or were to be
abbrev pub is_erasing : Status → Bool
is_erasing DiskErasing = true
is_erasing FailedDiskErasing = true
is_erasing other = false

-- in those all disks are erased in full, the one kind that the first schema knows
abbrev pub with_full : Machine → Machine
with_full m = record m { erase = if is_erasing m.status then Some Full else m.erase }

-- the hall is carried over: each machine in those statuses is erased in full, the schema is the second, and nothing else changes
pub record IsCarriedOver (h next : Hall) : Type 0 where
  pub was : h.schema ≡ first
  pub machines : (id : ℕ) → at next.machines id ≡ option_map with_full (at h.machines id)
  pub others : next ≡ record h { schema = second; machines = next.machines }

-- the trees spell this hall, or one of the first schema that becomes it
abbrev pub BecomeHall : Trees → Hall → Type 0
BecomeHall db h = SpellHall db h ⊎ ((g : Hall) × SpellFirst db g × IsCarriedOver g h)

-- ---- what is answered

-- what an answer tells, where a want of memory or of the disk can be answered of any tables
abbrev pub TellsMigrated : Database → Result Migrated OpenFault → Type 0
-- the first schema was there, and nothing had the name of the table that the second has more
TellsMigrated db (Ok Now) = IsAnswerFor First db (Ok tt) × (is_used db.schema (codes "wipes") ≡ false)
TellsMigrated db (Ok Already) = IsAnswerFor Second db (Ok tt)
-- one of the tables isn't there, or those of the first schema are, and something has the name of the table that the second has more
TellsMigrated db (Err NotAHall) = (IsAnswerFor First db (Err NotAHall) ⊎ IsAnswerFor Second db (Err NotAHall)) ⊎ (IsAnswerFor First db (Ok tt) × (is_used db.schema (codes "wipes") ≡ true))
TellsMigrated db (Err OtherVersion) = IsAnswerFor First db (Err OtherVersion) × IsAnswerFor Second db (Err OtherVersion)
TellsMigrated db (Err Unavailable) = ⊤

-- what the answer says of the tables of a file
pub record IsRightMigration (db : Database) (r : Result Migrated OpenFault) : Type 0 where
  pub told : TellsMigrated db r

-- ---- steps within the transaction

-- the schema that `hall` names becomes the second
abbrev pub set_schema_text : List ℕ
set_schema_text = codes "UPDATE hall SET schema = 2 WHERE one = 1"

abbrev pub set_schema_command : Command
set_schema_command = Update 0 (only (from_one 0 (op2 (Compare Eq Binary) (cell 0) (lit (Int (pos 1))) ∷ []) (cell 0 ∷ cell 0 ∷ lit Null ∷ lit (Int (pos 2)) ∷ cell 3 ∷ cell 4 ∷ cell 5 ∷ []) []))

-- at first: the database has the first schema, and spells this hall
pub record IsFirst (db : Database) (h : Hall) : Type 0 where
  pub schema : db.schema ≡ first_schema
  pub spelt : SpellFirst db.trees h

-- once `hall` names the second schema, the tables spell these rows
abbrev pub as_second : Hall → HallRows
as_second h = without_kinds (record h { schema = second })

-- a machine whose disks are to be erased, or were to be, has a row for that
abbrev pub kind_put : Machine → Rows numbers Wipe → Rows numbers Wipe
kind_put m wipes = if is_erasing m.status then put m.id (record { machine = m.id; erase = Full }) wipes else wipes

abbrev pub kinds_put : List Machine → Rows numbers Wipe → Rows numbers Wipe
kinds_put [] wipes = wipes
kinds_put (m ∷ ms) wipes = kinds_put ms (kind_put m wipes)

-- with the rows of one machine, and of several
abbrev pub with_kind_of : HallRows → Machine → HallRows
with_kind_of c m = record c { wipes = kind_put m c.wipes }

abbrev pub with_kinds_of : HallRows → List Machine → HallRows
with_kinds_of c ms = record c { wipes = kinds_put ms c.wipes }

-- all of it
abbrev pub carried_rows : Hall → HallRows
carried_rows h = with_kinds_of (as_second h) (listed h.machines)
