-- What the queries of machines ask.
use Rattle.sql_schema.specs.{Words.{equal_keys, rises, finds_kept, lists_kept, machines, of_machines, SpellHall, list_any, option_to_list, nat_tests, take-map, slice_get-map, Text, Blob, Binary, binary, is_true, Trees, IsAscending, Compare, Eq, all_of, ascending_weaker, filter_all, map-map, slice_get-filter, Rows, at, listed, StandUnder, has_uuid, is_named, machine_with_uuid, Hall, Machine, number, or_null, machine_columns, machine_values, and_true, AreRising-listed, list_machines_is, equals, cell, rising, find_is}, Asking.Asks, AskingLaws.asks_by, declared.creating.TheConstants.{FIND_MACHINE, LIST_MACHINES}}
use Rattle.sql_items.specs.{MachineStatements.{find_machine_with_image_is, find_uuid_is}, MachineRows.{AsksMachine, number_values, in_row, row_values}, declared.finding.TheConstants.{FIND_MACHINE_WITH_IMAGE, FIND_UUID}}
use Rattle.std.proofs.Common.{◌≡◌, ◌||◌, ◌<◌, ℕ, cond, List, [], ◌∷◌, map, filter, take, slice_get, Bool, true, false, Option, Some, None, option_map, Less, refl, sym, ap, subst, ◌∙◌, arith, is_some}
use Rattle.hall_types.specs.Rows.{numbers}
use Rattle.sql_schema.specs.ValueLaws as value

-- the machines of a hall that is spelt stand under their numbers
pub machines_stand : (db : Trees) (h : Hall) → SpellHall db h → StandUnder (λ (m : Machine). m.id) h.machines
machines_stand db h spells = subst (λ (x : Hall). StandUnder (λ (m : Machine). m.id) x.machines) spells.agrees.hall (spells.tables.each of_machines).under

below : (a b : ℕ) → numbers.cmp a b ≡ Less → a < b
unfolding numbers
below a b is = grind (arith, nat_tests)

pub in_number_order : (machines : Rows numbers Machine) → StandUnder (λ (m : Machine). m.id) machines → IsAscending (λ (a b : Machine). a.id < b.id) (listed machines)
in_number_order machines stand = ascending_weaker _ _ (λ x y low. below x.id y.id low) (listed machines) (AreRising-listed numbers (λ (m : Machine). m.id) machines stand)

-- ---- whole rows

-- what is shown of an item that may be missing is shown of what it is read as
pub shown_as : {X Y Z : Type 0} (values : Y → Z) (f : X → Y) (o : Option X) → map (λ x. values (f x)) (option_to_list o) ≡ map values (option_to_list (option_map f o))
shown_as values f None = refl
shown_as values f (Some x) = refl

pub finds_machine : (id : ℕ) → AsksMachine FIND_MACHINE.now (number id ∷ []) (λ h. at h.machines id)
finds_machine id = record {
  asks = asks_by (find_is of_machines) (λ db h spells rows a.
      finds_kept numbers machines.rowid machines.item machines.key_of machine_columns (db 11) spells.hall_rows.hall.machines (spells.tables.each of_machines) _ 11 (equals 0 0 ∷ []) machines.shown [] (number id ∷ []) db refl refl rows a id
      (λ m. equal_keys m.id id) machine_values (λ m. refl)
      ∙ shown_as row_values in_row (at spells.hall_rows.hall.machines id) ∙ ap (λ (x : Hall). map row_values (option_to_list (option_map in_row (at x.machines id)))) spells.agrees.hall);
  recorded = λ db h spells m is. ap (at h.machines) (machines_stand db h spells id m is) ∙ is;
}

pub lists_rows : Asks row_values LIST_MACHINES.now [] (λ h. map in_row (listed h.machines))
lists_rows = asks_by list_machines_is (λ db h spells rows a.
    lists_kept numbers machines.rowid machines.item machines.key_of machine_columns (db 11) spells.hall_rows.hall.machines (spells.tables.each of_machines) _ 11 [] machines.shown (rising 0 ∷ []) [] db refl refl rows a
    (λ _. true) (λ m. refl) (λ m. (number m.id ∷ [], machine_values m)) (λ m. refl) (λ one other low. rises one.id other.id low)
    ∙ ap (map machine_values) (filter_all (λ _. true) _ (all_of _ (λ _. refl) _)) ∙ sym (map-map row_values in_row _)
    ∙ ap (λ (x : Hall). map row_values (map in_row (listed x.machines))) spells.agrees.hall)

-- ---- numbers alone

-- the numbers of the machines that pass
abbrev pub numbers_where : (Machine → Bool) → Hall → List ℕ
numbers_where p h = map (λ (m : Machine). m.id) (filter p (listed h.machines))

uuid_test : (o : Option (List ℕ)) (uuid : List ℕ) → is_true (binary (Compare Eq Binary) (or_null Blob o) (Blob uuid)) ≡ has_uuid o uuid
uuid_test None uuid = value.null_blob uuid
uuid_test (Some its) uuid = value.same_blob its uuid

pub finds_uuid : (uuid : List ℕ) → Asks number_values FIND_UUID.now (Blob uuid ∷ []) (numbers_where (λ m. has_uuid m.uuid uuid))
finds_uuid uuid = asks_by find_uuid_is (λ db h spells rows a.
    lists_kept numbers machines.rowid machines.item machines.key_of machine_columns (db 11) spells.hall_rows.hall.machines (spells.tables.each of_machines) _ 11 (equals 3 0 ∷ []) (cell 0 ∷ []) (rising 0 ∷ [])
    (Blob uuid ∷ []) db refl refl rows a
    (λ m. has_uuid m.uuid uuid) (λ m. and_true _ ∙ uuid_test m.uuid uuid) (λ m. (number m.id ∷ [], number m.id ∷ [])) (λ m. refl) (λ one other low. rises one.id other.id low)
    ∙ sym (map-map number_values (λ (m : Machine). m.id) _) ∙ ap (λ (x : Hall). map number_values (numbers_where (λ m. has_uuid m.uuid uuid) x)) spells.agrees.hall)

-- the first of them
pub first_with_uuid : (h : Hall) (uuid : List ℕ) → slice_get (numbers_where (λ m. has_uuid m.uuid uuid) h) 0 ≡ option_map (λ (m : Machine). m.id) (machine_with_uuid h uuid)
first_with_uuid h uuid =
    slice_get-map (λ (m : Machine). m.id) (filter (λ m. has_uuid m.uuid uuid) (listed h.machines)) 0
    ∙ ap (option_map (λ (m : Machine). m.id)) (slice_get-filter (λ m. has_uuid m.uuid uuid) (listed h.machines))

image_test : (o : Option (List ℕ)) (name : List ℕ) → is_true (binary (Compare Eq Binary) (or_null Text o) (Text name)) ≡ is_named o name
image_test None name = value.null_text name
image_test (Some its) name = value.same_text its name

pub finds_image : (name : List ℕ) → Asks number_values FIND_MACHINE_WITH_IMAGE.now (Text name ∷ []) (λ h. take 1 (numbers_where (λ m. is_named m.image name) h))
finds_image name = asks_by find_machine_with_image_is (λ db h spells rows a.
    lists_kept numbers machines.rowid machines.item machines.key_of machine_columns (db 11) spells.hall_rows.hall.machines (spells.tables.each of_machines) _ 11 (equals 7 0 ∷ []) (cell 0 ∷ []) (rising 0 ∷ [])
    (Text name ∷ []) db refl refl rows a
    (λ m. is_named m.image name) (λ m. and_true _ ∙ image_test m.image name) (λ m. (number m.id ∷ [], number m.id ∷ [])) (λ m. refl) (λ one other low. rises one.id other.id low)
    ∙ ap (take 1) (sym (map-map number_values (λ (m : Machine). m.id) _)) ∙ take-map number_values 1 _
    ∙ ap (λ (x : Hall). map number_values (take 1 (numbers_where (λ m. is_named m.image name) x))) spells.agrees.hall)

-- whether a number is found says whether a machine passes
pub some_shown : (p : Machine → Bool) (ms : List Machine) → is_some (slice_get (take 1 (map (λ (m : Machine). m.id) (filter p ms))) 0) ≡ list_any p ms
some_shown p [] = refl
some_shown p (x ∷ xs) =
    elim (p x) as (λ b. is_some (slice_get (take 1 (map (λ (m : Machine). m.id) (cond b (x ∷ filter p xs) (filter p xs)))) 0) ≡ (b || list_any p xs))
    [ true ↦ refl | false ↦ some_shown p xs ]
