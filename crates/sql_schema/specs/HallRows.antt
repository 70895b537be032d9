-- What the tables of a hall hold.
use Rattle.sql_schema.specs.Prelude.{Rows, numbers, Hall, Erase}
use Rattle.std.specs.Prelude.{ℕ, List}

-- how many machines each pool has in each status, by the status's number
abbrev pub Counts : Type 0
Counts = List ℕ → ℕ → ℕ

-- how the disks of a machine are erased
pub record Wipe : Type 0 where
  pub machine : ℕ
  pub erase : Erase

-- What the tables hold: a hall's rows, the counts, and how disks are erased. Between the statements of one write the last
-- two may be behind the machines.
pub record HallRows : Type 0 where
  pub hall : Hall
  pub counts : Counts
  pub wipes : Rows numbers Wipe
