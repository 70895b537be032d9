-- Tables in memory, which may have slots for rows to come.
use Rattle.std.specs.{Prelude.{◌≡◌, Bool, List, Option, Some, None, IsSome, filter_map, if◌then◌else◌}, BTreeMap.{BTreeMap, get, values}, Ordering.eq_by_cmp, declared.cmp.Ordering.Ordering}
use Rattle.store_memory.specs.Prelude.{Keys, Rows}
use Rattle.hall_types.specs.Rows.{at}

-- the row in a slot, if there is a slot and a row in it
abbrev pub row_in : {X : Type 0} → Option (Option X) → Option X
row_in None = None
row_in (Some row) = row

-- the row, unless it goes
abbrev pub unless_gone : {X : Type 0} → (X → Bool) → Option X → Option X
unless_gone goes None = None
unless_gone goes (Some x) = if goes x then None else Some x

-- the rows of a table, in the order of their keys
abbrev pub rows_of : {K X : Type 0} → BTreeMap K (Option X) → List X
rows_of table = filter_map (λ row. row) (values table)

module _ {K X : Type 0} (cmp : K → K → Ordering) where
  -- the row with this key
  abbrev pub row_at : BTreeMap K (Option X) → K → Option X
  row_at table key = row_in (get cmp table key)

  -- there is a slot for a row with this key
  abbrev pub HasSlot : BTreeMap K (Option X) → K → Type 0
  HasSlot table key = IsSome (get cmp table key)

  -- each slot is still there
  abbrev pub KeepsSlots : BTreeMap K (Option X) → BTreeMap K (Option X) → Type 0
  KeepsSlots old new = (key : K) → HasSlot old key → HasSlot new key

  -- each row is still there, and no other
  abbrev pub KeepsRows : BTreeMap K (Option X) → BTreeMap K (Option X) → Type 0
  KeepsRows old new = (key : K) → row_at new key ≡ row_at old key

  -- the row with a key is this one now, and the others are as before
  abbrev pub Sets : BTreeMap K (Option X) → BTreeMap K (Option X) → K → Option X → Type 0
  Sets old new key row = (other : K) → row_at new other ≡ (if eq_by_cmp cmp key other then row else row_at old other)

  -- each row that goes is taken out, and the others are as before
  abbrev pub Clears : BTreeMap K (Option X) → BTreeMap K (Option X) → (X → Bool) → Type 0
  Clears old new goes = (key : K) → row_at new key ≡ unless_gone goes (row_at old key)

  -- the only row is this one
  abbrev pub HasSole : BTreeMap K (Option X) → K → X → Type 0
  HasSole table key row = (other : K) → row_at table other ≡ (if eq_by_cmp cmp key other then Some row else None)

  -- a table has these rows, whose keys are `key_of` the table's
  abbrev pub IsTable : {L : Type 0} {keys : Keys L} → (K → L) → BTreeMap K (Option X) → Rows keys X → Type 0
  IsTable key_of table rows = (key : K) → row_at table key ≡ at rows (key_of key)
