-- Which hall a store in memory has.
use Rattle.std.specs.{Prelude.{◌≡◌, ℕ, ◌↔◌, ⊤, List, [], ◌∷◌, Option, Some, None, if◌then◌else◌}, Cmp.Lexicographic.slice_cmp, Ordering.{nat_cmp, ordering_then}, Str.bytes_eq, declared.cmp.Ordering.Ordering}
use Rattle.hall_types.specs.Rows.{numbers, texts, at, size}
use Rattle.store_memory.specs.{Prelude.{Hall, pair, second, arch_number, IsKeyed, has_uuid, Rows, RowWrite, PutOperator, PutPool, PutMember, PutImage, PutLive, PutMachine, PutInterface, PutBoot, PutOrder, PutReceipt, Interface, Machine, IsEarliest}, Hashed.{HasEntry, Hashed, entry_at}, Table.{HasSlot, IsTable}, declared.memory.MemoryStore.MemoryStore}

abbrev pub text_cmp : List ℕ → List ℕ → Ordering
text_cmp = slice_cmp nat_cmp

-- pairs, by their first parts and then by the second
abbrev pub pair_cmp : List ℕ × List ℕ → List ℕ × List ℕ → Ordering
pair_cmp one other = ordering_then (text_cmp one.0 other.0) (text_cmp one.1 other.1)

abbrev pub itself : {K : Type 0} → K → K
itself key = key

abbrev pub as_pair : List ℕ × List ℕ → List (List ℕ)
as_pair key = pair key.0 key.1

-- the interfaces are found by their addresses
abbrev pub AreFound : Hashed (List ℕ) Interface → Rows texts Interface → Type 0
AreFound table interfaces = (mac : List ℕ) → entry_at bytes_eq table mac ≡ at interfaces mac

-- the index has the number of the machine with each UUID
abbrev pub IsIndex : Hashed (List ℕ) ℕ → Rows numbers Machine → Type 0
IsIndex index machines = (uuid : List ℕ) (id : ℕ) →
    (entry_at bytes_eq index uuid ≡ Some id) ↔ ((m : Machine) × (at machines id ≡ Some m) × (m.uuid ≡ Some uuid))

-- the UUID of a machine, if there is a machine and it has one
abbrev pub uuid_of : Option Machine → Option (List ℕ)
uuid_of None = None
uuid_of (Some m) = m.uuid

-- the entry of a UUID, if one is given, is this one now, and the others are as before
abbrev pub SetsEntry : Hashed (List ℕ) ℕ → Hashed (List ℕ) ℕ → Option (List ℕ) → Option ℕ → Type 0
SetsEntry old new given entry = (uuid : List ℕ) → entry_at bytes_eq new uuid ≡ (if has_uuid given uuid then entry else entry_at bytes_eq old uuid)

-- the store has this hall: each table has its rows, and what is kept beside the tables is theirs
pub record IsHeld (s : MemoryStore) (h : Hall) : Type 0 where
  pub schema : h.schema ≡ second
  pub keyed : IsKeyed h
  pub operators : IsTable text_cmp itself s.operators h.operators
  pub pools : IsTable text_cmp itself s.pools h.pools
  pub members : IsTable pair_cmp as_pair s.members h.members
  pub images : IsTable text_cmp itself s.images h.images
  pub lives : IsTable nat_cmp itself s.lives h.lives
  pub machines : IsTable nat_cmp itself s.machines h.machines
  pub interfaces : IsTable text_cmp itself s.interfaces h.interfaces
  pub boots : IsTable nat_cmp itself s.boots h.boots
  pub orders : IsTable nat_cmp itself s.orders h.orders
  pub receipts : IsTable pair_cmp as_pair s.receipts h.receipts
  pub last : s.numbers ≡ h.last
  pub addresses : AreFound s.addresses h.interfaces
  pub uuids : IsIndex s.uuids h.machines
  pub count : s.machine_count ≡ size h.machines
  pub earliest : IsEarliest s.earliest h.machines

-- there is a slot for what the row write puts
abbrev pub HasSlots : RowWrite → MemoryStore → Type 0
HasSlots (PutOperator o) s = HasSlot text_cmp s.operators o.name
HasSlots (PutPool p) s = HasSlot text_cmp s.pools p.name
HasSlots (PutMember m) s = HasSlot pair_cmp s.members (m.pool, m.operator)
HasSlots (PutImage i) s = HasSlot text_cmp s.images i.name
HasSlots (PutLive l) s = HasSlot nat_cmp s.lives (arch_number l.arch)
HasSlots (PutMachine m was) s = HasSlot nat_cmp s.machines m.id × ((uuid : List ℕ) → m.uuid ≡ Some uuid → HasEntry bytes_eq s.uuids uuid)
HasSlots (PutInterface i) s = HasSlot text_cmp s.interfaces i.mac × HasEntry bytes_eq s.addresses i.mac
HasSlots (PutBoot b) s = HasSlot nat_cmp s.boots b.number
HasSlots (PutOrder o) s = HasSlot nat_cmp s.orders o.number
HasSlots (PutReceipt r) s = HasSlot pair_cmp s.receipts (r.operator, r.key)
HasSlots w s = ⊤

-- each slot is still there
abbrev pub KeepsAllSlots : MemoryStore → MemoryStore → Type 0
KeepsAllSlots old new = (w : RowWrite) → HasSlots w old → HasSlots w new

-- there are slots for what all row writes put
abbrev pub HaveAllSlots : List RowWrite → MemoryStore → Type 0
HaveAllSlots [] s = ⊤
HaveAllSlots (w ∷ ws) s = HasSlots w s × HaveAllSlots ws s
