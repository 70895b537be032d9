-- Which rows of the tables spell a hall.
use Rattle.sql_schema.specs.{Prelude.{Hall, second, at, how_many, bytes_eq, Trees, Database, IsSound, status_number, Machine}, Described.{TableName, described, hall_schema}, HallRows.{HallRows, Wipe}}
use Rattle.std.specs.Prelude.{◌≡◌, ◌==◌, ◌&&◌, ℕ, Bool, List, Option, option_map, option_and_then}

-- the trees of the tables have these rows
pub record AreTables (db : Trees) (c : HallRows) : Type 0 where
  -- the trees list the schema of a hall and no other, and obey it
  pub sound : IsSound hall_schema db
  pub schema : c.hall.schema ≡ second
  pub each : (t : TableName) → (described t).stores (db (described t).table.tree) ((described t).held c)

-- a machine is in this pool and this status
abbrev pub is_in : List ℕ → ℕ → Machine → Bool
is_in pool status m = bytes_eq m.pool pool && (status_number m.status == status)

-- how the disks of this machine are erased, if they are to be
abbrev pub wipe_of : Machine → Option Wipe
wipe_of m = option_map (λ erase. record { machine = m.id; erase = erase }) m.erase

-- the rows are this hall, with the counts of its machines and their kinds of erasing
pub record AreRowsOf (h : Hall) (c : HallRows) : Type 0 where
  pub hall : c.hall ≡ h
  pub counts : (pool : List ℕ) (status : ℕ) → c.counts pool status ≡ how_many (is_in pool status) h.machines
  pub wipes : (id : ℕ) → at c.wipes id ≡ option_and_then wipe_of (at h.machines id)

-- the database has the schema of a hall, and its tables these rows
pub record Spells (db : Database) (c : HallRows) : Type 0 where
  pub schema : db.schema ≡ hall_schema
  pub tables : AreTables db.trees c

-- the trees spell this hall
pub record SpellHall (db : Trees) (h : Hall) : Type 0 where
  pub hall_rows : HallRows
  pub tables : AreTables db hall_rows
  pub agrees : AreRowsOf h hall_rows
