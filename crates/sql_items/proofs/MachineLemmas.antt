-- What the statements on machines write: a row that still has its version, with RETURNING, and a row that goes after its children.
use Rattle.sql_schema.specs.{Words.{number_key, number_is_free, equal_keys, adds_kept, sets_kept_if, removes_alone, IsKept, TableOf, kept_row, machines, interfaces, boots, orders, wipes, HallRows, cell, equals, Keys, Rows, numbers, at, listed, same_key, of_boots, of_interfaces, of_machines, of_orders, of_wipes, list_any, take-map, Value, Row, cast, cast_row, row_at, with_rowid, Chosen, bound, bound_value, State, ExecutesInside, Shown, ValueRef, all_from, Has, filter_same, any_from_none, key-same, same_number, arch_number, status_number, Hall, Machine, no_row_points, list_any-IsPermutation, uncounted, hall_schema, machines_table, interfaces_table, boots_table, orders_table, wipes_table, belongs_to_machine, never_follows, machines_go_alone, number, truth_number, or_null, machine_columns, machine_values, sets, IsWithin, within, shown_within, add_is}, declared.creating.TheConstants.ADD_MACHINE, TableStatements.{with_item, without_item}}
use Rattle.sql_items.specs.{MachineRowLaws.cast_machine, MachineStatements.{set_machine_is, remove_machine_is}, Machines.{checked_values, HasNoChild, HasVersion}, declared.machines.TheConstants.{REMOVE_MACHINE, SET_MACHINE}}
use Rattle.std.proofs.Common.{◌≡◌, ◌&&◌, ◌||◌, ◌==◌, inl, inr, ℕ, pos, List, [], ◌∷◌, map, drop, length, take, Bool, false, Option, Some, None, Ok, refl, sym, ap, ap₂, subst, ◌∙◌, int_eq, IsPermutation, arith}
use Rattle.sql_schema.specs.ValueLaws as value

-- ---- a new row, and a row that still has its version

pub adds_machine : (old new : State) (before : Hall) (c : HallRows) → IsWithin old before c → (m : Machine) (count : ℕ) → ExecutesInside 0 ADD_MACHINE.now (machine_values m) old new (Ok count)
    → IsWithin new before (with_item machines c m) × (at c.hall.machines m.id ≡ None)
adds_machine old new before c held m count ran =
    let free = number_is_free machines.key_of machine_columns (old.now.trees 11) c.hall.machines (held.spelt.tables.each of_machines) m.id in
    let it = adds_kept numbers machines.rowid machines.item machines.key_of machine_columns (old.now.trees 11) c.hall.machines (held.spelt.tables.each of_machines) hall_schema 6 machines_table refl old new held.spelt.schema refl
    ADD_MACHINE.now (machine_values m) count ran.0 machines.given (length machines.given) (add_is of_machines) m free (machines.source m) refl (ap (with_rowid Chosen (old.now.trees 11)) (cast_machine m)) in
    (within ADD_MACHINE.now (machine_values m) old new before c _ count held ran (sets of_machines old.now new.now c held.spelt it.0.0 _ it.0.1 it.0.2), free it.1)

-- where one row is shown, the row had the version, and was changed
pub sets_machine : (old new : State) (before : Hall) (c : HallRows) → IsWithin old before c → (m : Machine) (was : ℕ) (rows : List Row) → Shown SET_MACHINE.now (checked_values m was) old new rows
    → length rows ≡ 1 → IsWithin new before (with_item machines c m) × HasVersion c m.id was
sets_machine old new before c held m was rows shown single =
    let it = sets_kept_if numbers machines.rowid machines.item machines.key_of machine_columns (old.now.trees 11) c.hall.machines (held.spelt.tables.each of_machines) hall_schema 6 machines_table refl old new held.spelt.schema refl
    SET_MACHINE.now (checked_values m was) (equals 0 0 ∷ equals 11 (length machines.shown) ∷ []) refl (cell 0 ∷ drop 1 machines.given) never_follows m (λ y. same_key numbers y.version was)
    (λ y. record m { id = y.id }) (λ y. refl) (λ y t. ap (λ n. record m { id = n }) (key-same numbers y.id m.id t)) (λ y. cast_machine (record m { id = y.id }))
    (λ y. ap₂ (λ a b. a && b) (value.same_number (pos y.id) (pos m.id) ∙ number_key y.id m.id) (equal_keys y.version was)) _ _ 1 refl set_machine_is rows shown in
    elim it.2 [
      | inl none ↦ absurd (let e = sym none.0 ∙ single in omega (arith, e))
      | inr one ↦ (shown_within SET_MACHINE.now (checked_values m was) _ _ set_machine_is old new before c _ rows held shown (sets of_machines old.now new.now c held.spelt it.0 _ it.1 one.2), (one.1.0, one.1.1, key-same numbers one.1.0.version was one.1.2))
    ]

-- ---- a row that goes after its children

-- no item of a list points to the machine
none_in : {Y : Type 0} (machine_of : Y → ℕ) (id : ℕ) (ys : List Y) → ((y : Y) → Has ys y → (machine_of y == id) ≡ false) → list_any (λ y. int_eq (pos (machine_of y)) (pos id)) ys ≡ false
none_in machine_of id ys none =
    any_from_none _ ys (all_from (λ y. int_eq (pos (machine_of y)) (pos id) ≡ false) ys (λ y h. number_key (machine_of y) id ∙ same_number (machine_of y) id ∙ none y h))

mapped_any : {Y Z : Type 0} (p : Z → Bool) (g : Y → Z) (ys : List Y) → list_any p (map g ys) ≡ list_any (λ y. p (g y)) ys
mapped_any p g [] = refl
mapped_any p g (y ∷ ys) = ap (λ b. p (g y) || b) (mapped_any p g ys)

-- no entry of a table does
none_kept : {K X E : Type 0} {keys : Keys K} (t : TableOf keys X E) (stored : List Row) (rows : Rows keys X) (is : IsKept t.rowid t.item t.key_of t.columns stored rows) (machine_of : X → ℕ) (id : ℕ)
    → ((x : X) → Has (listed rows) x → (machine_of x == id) ≡ false) → list_any (λ e. int_eq (pos (machine_of (t.item e))) (pos id)) is.entries ≡ false
none_kept t stored rows is machine_of id none =
    sym (mapped_any (λ x. int_eq (pos (machine_of x)) (pos id)) t.item is.entries) ∙ sym (list_any-IsPermutation _ _ _ is.same) ∙ none_in machine_of id (listed rows) none

pub removes_machine : (old new : State) (before : Hall) (c : HallRows) → IsWithin old before c → (id : ℕ) → HasNoChild c id → (count : ℕ) → ExecutesInside 0 REMOVE_MACHINE.now (number id ∷ []) old new (Ok count) → IsWithin new before (without_item machines c id)
removes_machine old new before c held id alone count ran =
    let each = held.spelt.tables.each in
    let entries = (each of_machines).entries in
    let it = removes_alone numbers machines.rowid machines.item machines.key_of machine_columns (old.now.trees 11) c.hall.machines (each of_machines) hall_schema 6 machines_table refl old new held.spelt.schema refl
    REMOVE_MACHINE.now (number id ∷ []) (equals 0 0 ∷ []) refl remove_machine_is count ran.0 id (λ x. equal_keys x.id id)
    (λ mid ids same rest.
    let permuted = subst (λ l. IsPermutation (map machines.rowid l) ids) (filter_same _ _ (λ (x : Machine). sym (number_key x.id id)) entries) same in
    machines_go_alone mid (map (row_at (old.now.trees 11)) ids)
    (no_row_points machines.rowid machine_columns (kept_row interfaces) 2 (λ e. pos e.item.machine) (λ e. refl) 11 old.now.trees mid entries (each of_machines).spelt (pos id) ids permuted
    interfaces_table (belongs_to_machine 2) refl (each of_interfaces).entries (rest.1.1.1.1.1.1.1.0 (λ e. cc) ∙ (each of_interfaces).spelt) (none_kept interfaces _ c.hall.interfaces (each of_interfaces) (λ i. i.machine) id alone.interfaces))
    (no_row_points machines.rowid machine_columns (kept_row boots) 2 (λ b. pos b.machine) (λ b. refl) 11 old.now.trees mid entries (each of_machines).spelt (pos id) ids permuted
    boots_table (belongs_to_machine 2) refl (each of_boots).entries (rest.1.1.1.1.1.1.1.1.0 (λ e. cc) ∙ (each of_boots).spelt) (none_kept boots _ c.hall.boots (each of_boots) (λ b. b.machine) id alone.boots))
    (no_row_points machines.rowid machine_columns (kept_row orders) 2 (λ o. pos o.machine) (λ o. refl) 11 old.now.trees mid entries (each of_machines).spelt (pos id) ids permuted
    orders_table (belongs_to_machine 2) refl (each of_orders).entries (rest.1.1.1.1.1.1.1.1.1.0 (λ e. cc) ∙ (each of_orders).spelt) (none_kept orders _ c.hall.orders (each of_orders) (λ o. o.machine) id alone.orders))
    (no_row_points machines.rowid machine_columns (kept_row wipes) 0 (λ w. pos w.machine) (λ w. refl) 11 old.now.trees mid entries (each of_machines).spelt (pos id) ids permuted
    wipes_table (belongs_to_machine 0) refl (each of_wipes).entries (rest.1.1.1.1.1.1.1.1.1.1.1.1.0 (λ e. cc) ∙ (each of_wipes).spelt) (none_kept wipes _ c.wipes (each of_wipes) (λ w. w.machine) id alone.wipes))) in
    within REMOVE_MACHINE.now (number id ∷ []) old new before c _ count held ran (sets of_machines old.now new.now c held.spelt it.0 _ it.1 it.2)

-- ---- parameters that may be NULL

pub bound_optional : {X : Type 0} (value : X → Value) → ((x : X) → bound_value (value x) ≡ value x) → (o : Option X) → bound_value (or_null value o) ≡ or_null value o
bound_optional value bound None = refl
bound_optional value bound (Some x) = bound x

-- the values of a row are all of those with the version but the last
pub row_bound : (checked : List ValueRef) (m : Machine) (was : ℕ) → bound checked ≡ checked_values m was → bound (take (length machines.shown) checked) ≡ machine_values m
row_bound checked m was is = sym (take-map _ (length machines.shown) checked) ∙ ap (take (length machines.shown)) is
