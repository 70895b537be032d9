-- What a store has after one of its parts was changed.
use Rattle.std.{specs.{Prelude.{◌≡◌, ◌<◌, ◌≤◌, ◌+◌, ◌-◌, ◌^◌, ℕ, List, [], ◌∷◌, length, map, filter_map, Option, Some, None}, List.cons_option, BTreeMap.{BTreeMap, IsOrdered, btree_map_len}, Ordering.nat_cmp, Str.bytes_eq}, proofs.Common.{rules, sym, ap, ◌∙◌, arith}}
use Rattle.hall_types.specs.Rows.{size}
use Rattle.store_memory.{specs.{Prelude.{Hall, length-listed, Interface, Machine, IsEarliest}, declared.memory.MemoryStore.MemoryStore, Hashed.{Hashed, KeepsFound}, Held.{AreFound, IsHeld, IsIndex, text_cmp}, Table.{KeepsRows, rows_of}}, proofs.TableLemmas.numbers_listed}

pub rows_few : {K X : Type 0} (es : List (K × Option X)) → length (filter_map (λ (row : Option X). row) (map (λ (e : K × Option X). e.1) es)) ≤ length es
rows_few [] = omega arith
rows_few {X = X} (e ∷ es) = by e.1 (rows_few es)
  where
    by : (row : Option X) → length (filter_map (λ (row : Option X). row) (map (λ e. e.1) es)) ≤ length es → length (cons_option row (filter_map (λ (row : Option X). row) (map (λ e. e.1) es))) ≤ length (e ∷ es)
    by None le = omega (arith, le)
    by (Some x) le = omega (arith, le)

below : (count size rows slots : ℕ) → count ≡ size → rows ≡ size → rows ≤ slots → slots < 2 ^ 63 → count < 2 ^ 63
below count size rows slots a b c d = omega arith

pub same_count : (count old size after one : ℕ) → count + one ≡ old + 1 → old ≡ size → after + one ≡ size + 1 → count ≡ after
same_count count old size after one a b c = omega arith

pub one_less : (count old size after one : ℕ) → count ≡ old - one → old ≡ size → after + one ≡ size → count ≡ after
one_less count old size after one a b c = omega arith

module _ (s : MemoryStore) (h : Hall) (held : IsHeld s h) where
  pub same_machines : (table : BTreeMap ℕ (Option Machine)) → KeepsRows nat_cmp s.machines table → IsHeld (record s { machines = table }) h
  same_machines table keeps = let is = λ (key : ℕ). keeps key ∙ held.machines key in search rules

  pub same_interfaces : (table : BTreeMap (List ℕ) (Option Interface)) → KeepsRows text_cmp s.interfaces table → IsHeld (record s { interfaces = table }) h
  same_interfaces table keeps = let is = λ (key : List ℕ). keeps key ∙ held.interfaces key in search rules

  pub same_addresses : (addresses : Hashed (List ℕ) Interface) → KeepsFound bytes_eq s.addresses addresses → IsHeld (record s { addresses = addresses }) h
  same_addresses addresses keeps = let are : AreFound addresses h.interfaces = λ mac. keeps mac ∙ held.addresses mac in search rules

  pub same_uuids : (uuids : Hashed (List ℕ) ℕ) → KeepsFound bytes_eq s.uuids uuids → IsHeld (record s { uuids = uuids }) h
  same_uuids uuids keeps =
      let its : IsIndex uuids h.machines = λ uuid id. (λ is. (held.uuids uuid id).0 (sym (keeps uuid) ∙ is), λ there. keeps uuid ∙ (held.uuids uuid id).1 there) in search rules

  pub held_earliest : (earliest : ℕ) → IsEarliest earliest h.machines → IsHeld (record s { earliest = earliest }) h
  held_earliest earliest least = search rules

  -- fewer machines than slots
  pub few : IsOrdered nat_cmp s.machines → btree_map_len s.machines < 2 ^ 63 → s.machine_count < 2 ^ 63
  few ordered small =
      let len : length (rows_of s.machines) ≡ size h.machines = ap length (numbers_listed s.machines h.machines ordered held.machines) ∙ length-listed h.machines in
      below s.machine_count (size h.machines) (length (rows_of s.machines)) (btree_map_len s.machines) held.count len (rows_few s.machines.entries) small
