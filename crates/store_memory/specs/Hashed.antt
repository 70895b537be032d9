-- Tables in memory that are found by a hash of their keys, which may have slots for rows to come.
use Rattle.std.specs.{Prelude.{◌≡◌, Bool, Option, IsSome, if◌then◌else◌}, HashMap.{HashMap, get}, declared.hash.{BuildHasherDefault.BuildHasherDefault, FoldHasher.FoldHasher}}
use Rattle.store_memory.specs.Table.{row_in, unless_gone}

abbrev pub Hashed : Type 0 → Type 0 → Type 0
Hashed K X = HashMap K (Option X) (BuildHasherDefault FoldHasher)

module _ {K X : Type 0} (eq : K → K → Bool) where
  -- the row with this key
  abbrev pub entry_at : Hashed K X → K → Option X
  entry_at table key = row_in (get eq table key)

  -- there is a slot for a row with this key
  abbrev pub HasEntry : Hashed K X → K → Type 0
  HasEntry table key = IsSome (get eq table key)

  -- each slot is still there
  abbrev pub KeepsEntries : Hashed K X → Hashed K X → Type 0
  KeepsEntries old new = (key : K) → HasEntry old key → HasEntry new key

  -- each row is still there, and no other
  abbrev pub KeepsFound : Hashed K X → Hashed K X → Type 0
  KeepsFound old new = (key : K) → entry_at new key ≡ entry_at old key

  -- the row with a key is this one now, and the others are as before
  abbrev pub SetsEntryAt : Hashed K X → Hashed K X → K → Option X → Type 0
  SetsEntryAt old new key row = (other : K) → entry_at new other ≡ (if eq key other then row else entry_at old other)

  -- each row that goes is taken out, and the others are as before
  abbrev pub ClearsEntries : Hashed K X → Hashed K X → (X → Bool) → Type 0
  ClearsEntries old new goes = (key : K) → entry_at new key ≡ unless_gone goes (entry_at old key)
