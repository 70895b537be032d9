-- The slots that a store keeps after one of its parts was changed.
use Rattle.std.specs.{Prelude.{ℕ, List, [], ◌∷◌, ◌++◌, Option}, BTreeMap.BTreeMap, Ordering.nat_cmp, Str.bytes_eq}
use Rattle.store_memory.specs.{Prelude.{Boot, RowWrite, PutMember, PutMachine, PutInterface, PutBoot, PutOrder, PutReceipt, Interface, Machine, Member, Order, Receipt}, declared.memory.MemoryStore.MemoryStore, Held.{HasSlots, HaveAllSlots, KeepsAllSlots, pair_cmp, text_cmp}, Hashed.{Hashed, KeepsEntries}, Table.KeepsSlots}

module _ (s : MemoryStore) where
  pub slots_members : (table : BTreeMap (List ℕ × List ℕ) (Option Member)) → KeepsSlots pair_cmp s.members table → KeepsAllSlots s (record s { members = table })
  slots_members table keeps (PutMember m) slot = keeps (m.pool, m.operator) slot
  slots_members table keeps w slot = slot

  pub slots_interfaces : (table : BTreeMap (List ℕ) (Option Interface)) (addresses : Hashed (List ℕ) Interface) → KeepsSlots text_cmp s.interfaces table → KeepsEntries bytes_eq s.addresses addresses
      → KeepsAllSlots s (record s { interfaces = table; addresses = addresses })
  slots_interfaces table addresses keeps keeps_found (PutInterface i) slot = (keeps i.mac slot.0, keeps_found i.mac slot.1)
  slots_interfaces table addresses keeps keeps_found w slot = slot

  pub slots_boots : (table : BTreeMap ℕ (Option Boot)) → KeepsSlots nat_cmp s.boots table → KeepsAllSlots s (record s { boots = table })
  slots_boots table keeps (PutBoot b) slot = keeps b.number slot
  slots_boots table keeps w slot = slot

  pub slots_orders : (table : BTreeMap ℕ (Option Order)) → KeepsSlots nat_cmp s.orders table → KeepsAllSlots s (record s { orders = table })
  slots_orders table keeps (PutOrder o) slot = keeps o.number slot
  slots_orders table keeps w slot = slot

  pub slots_receipts : (table : BTreeMap (List ℕ × List ℕ) (Option Receipt)) → KeepsSlots pair_cmp s.receipts table → KeepsAllSlots s (record s { receipts = table })
  slots_receipts table keeps (PutReceipt r) slot = keeps (r.operator, r.key) slot
  slots_receipts table keeps w slot = slot

  pub slots_machines : (table : BTreeMap ℕ (Option Machine)) (uuids : Hashed (List ℕ) ℕ) (count earliest : ℕ) → KeepsSlots nat_cmp s.machines table → KeepsEntries bytes_eq s.uuids uuids
      → KeepsAllSlots s (record s { machines = table; uuids = uuids; machine_count = count; earliest = earliest })
  slots_machines table uuids count earliest keeps keeps_uuids (PutMachine m was) slot = (keeps m.id slot.0, λ uuid is. keeps_uuids uuid (slot.1 uuid is))
  slots_machines table uuids count earliest keeps keeps_uuids w slot = slot

-- ---- of all row writes

pub slots_kept : (ws : List RowWrite) (old new : MemoryStore) → KeepsAllSlots old new → HaveAllSlots ws old → HaveAllSlots ws new
slots_kept [] old new keeps all = tt
slots_kept (w ∷ ws) old new keeps all = (keeps w all.0, slots_kept ws old new keeps all.1)

pub slots_last : (ws : List RowWrite) (w : RowWrite) (s : MemoryStore) → HaveAllSlots ws s → HasSlots w s → HaveAllSlots (ws ++ w ∷ []) s
slots_last [] w s all last = (last, tt)
slots_last (v ∷ ws) w s all last = (all.0, slots_last ws w s all.1 last)
