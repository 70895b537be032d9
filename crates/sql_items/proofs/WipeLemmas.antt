-- What the statements on kinds of erasing ask and write.
use Rattle.sql_schema.specs.{Words.{equal_keys, rises, number_is_free, finds_kept, lists_kept, adds_kept, removes_kept, wipes, HallRows, of_wipes, wipe_of, filter_map, option_to_list, State, all_of, filter_all, map-map, all_has, Has, Rows, at, numbers, listed, StandUnder, erase_number, AllByRecursion-listed, Hall, Erase, Machine, goes_alone, Wipe, number, wipe_columns, within, AreRising-listed, same_lists, listed_at, at_listed, equals, cell, rising, sets, hall_schema, wipes_table, add_is, find_is}, Asking.Asks, Writing.Makes, AskingLaws.asks_by, declared.creating.TheConstants.{FIND_WIPE, ADD_WIPE}}
use Rattle.sql_items.{specs.{MachineStatements.{list_wipes_is, remove_wipe_is}, declared.wipes.{Erasing.Erasing, TheConstants.{LIST_WIPES, REMOVE_WIPE}}, Wipes.{with_wipe, erasing, erasing_values, erasings}}, proofs.{ListLemmas.{all_mapped, ascending_mapped, mapped_has}, FindingLemmas.{machines_stand, shown_as}}}
use Rattle.std.{proofs.Common.{◌≡◌, ℕ, [], ◌∷◌, map, true, Option, Some, None, Less, refl, sym, ap, subst₂, ◌∙◌, option_map}, specs.Prelude.option_and_then}
use Rattle.sql_schema.specs.ValueLaws as value

-- ---- the rows of the table, as machines have them

machine_is : (o : Option Machine) (w : Wipe) → option_and_then wipe_of o ≡ Some w → (m : Machine) × (o ≡ Some m) × (wipe_of m ≡ Some w)
machine_is None w e = cc
machine_is (Some m) w e = (m, refl, e)

pub wipe_machine : (m : Machine) (w : Wipe) → wipe_of m ≡ Some w → w.machine ≡ m.id
wipe_machine m w = elim m.erase as (λ o. option_map (λ erase. record { machine = m.id; erase = erase }) o ≡ Some w → w.machine ≡ m.id) [ None ↦ λ k. cc | Some e ↦ λ k. cc ]

-- the table lists the kinds of erasing of the machines that have one
listed_wipes : (kinds : Rows numbers Wipe) (machines : Rows numbers Machine) → StandUnder (λ (w : Wipe). w.machine) kinds → StandUnder (λ (m : Machine). m.id) machines
    → ((id : ℕ) → at kinds id ≡ option_and_then wipe_of (at machines id)) → listed kinds ≡ filter_map wipe_of (listed machines)
listed_wipes kinds machines under stand agree =
    same_lists numbers (λ (w : Wipe). w.machine) (listed kinds) (filter_map wipe_of (listed machines)) (AreRising-listed numbers (λ (w : Wipe). w.machine) kinds under)
    (ascending_mapped _ _ wipe_of (λ m other w last is same low. subst₂ (λ n k. numbers.cmp n k ≡ Less) (sym (wipe_machine m w is)) (sym (wipe_machine other last same)) low) (listed machines)
    (AreRising-listed numbers (λ (m : Machine). m.id) machines stand))
    (λ w h.
    let it = machine_is (at machines w.machine) w (sym (agree w.machine) ∙ listed_at numbers (λ (w : Wipe). w.machine) kinds under w h) in
    mapped_has wipe_of (listed machines) it.0 w (at_listed numbers (λ (m : Machine). m.id) machines stand w.machine it.0 it.1) it.2)
    (λ w h. all_has (Has (listed kinds)) (filter_map wipe_of (listed machines)) w (all_mapped (λ (m : Machine). at machines m.id ≡ Some m) (Has (listed kinds)) wipe_of
    (λ m w is there. at_listed numbers (λ (w : Wipe). w.machine) kinds under m.id w (agree m.id ∙ ap (option_and_then wipe_of) there ∙ is))
    (listed machines) (AllByRecursion-listed (λ (m : Machine). m.id) machines stand)) h)

-- ---- reads

pub finds_wipe : (id : ℕ) → Asks erasing_values FIND_WIPE.now (number id ∷ []) (λ h. option_to_list (option_map erasing (option_and_then wipe_of (at h.machines id))))
finds_wipe id = asks_by (find_is of_wipes) (λ db h spells rows a.
    finds_kept numbers wipes.rowid wipes.item wipes.key_of wipe_columns (db 24) spells.hall_rows.wipes (spells.tables.each of_wipes) _ 24 (equals 0 0 ∷ []) (cell 0 ∷ cell 2 ∷ []) [] (number id ∷ []) db refl refl rows a id
    (λ w. equal_keys w.machine id) wipes.values_of (λ w. refl)
    ∙ shown_as erasing_values erasing (at spells.hall_rows.wipes id) ∙ ap (λ o. map erasing_values (option_to_list (option_map erasing o))) (spells.agrees.wipes id))

-- the kind of erasing in what was found
pub found_erase : (o : Option Machine) → option_map (λ (e : Erasing). e.erase) (option_map erasing (option_and_then wipe_of o)) ≡ option_and_then (λ (m : Machine). m.erase) o
found_erase None = refl
found_erase (Some m) = elim m.erase as (λ o. option_map (λ (x : Erasing). x.erase) (option_map erasing (option_map (λ erase. record { machine = m.id; erase = erase }) o)) ≡ o) [ None ↦ refl | Some e ↦ refl ]

pub lists_wipes : Asks erasing_values LIST_WIPES.now [] erasings
lists_wipes = asks_by list_wipes_is (λ db h spells rows a.
    lists_kept numbers wipes.rowid wipes.item wipes.key_of wipe_columns (db 24) spells.hall_rows.wipes (spells.tables.each of_wipes) _ 24 [] (cell 0 ∷ cell 2 ∷ []) (rising 0 ∷ []) [] db refl refl rows a (λ _. true) (λ w. refl)
    (λ w. (number w.machine ∷ [], wipes.values_of w)) (λ w. refl) (λ one other low. rises one.machine other.machine low)
    ∙ ap (map (λ w. erasing_values (erasing w)))
    (filter_all (λ _. true) _ (all_of (λ _. true ≡ true) (λ _. refl) _) ∙ listed_wipes spells.hall_rows.wipes h.machines (spells.tables.each of_wipes).under (machines_stand db h spells) spells.agrees.wipes)
    ∙ sym (map-map erasing_values erasing _))

-- ---- writes

module _ {C : Type 0} (state_of : C → State) (id : ℕ) where
  pub adds_wipe : (erase : Erase) (before : Hall) (c : HallRows) → Makes state_of ADD_WIPE.now (number id ∷ number (erase_number erase) ∷ []) before c (with_wipe c id (Some erase))
  adds_wipe erase before c one other held count ran =
      let old = state_of one in
      let new = state_of other in
      let w : Wipe = record { machine = id; erase = erase } in
      let is = held.spelt.tables.each of_wipes in
      let it = adds_kept numbers wipes.rowid wipes.item wipes.key_of wipe_columns (old.now.trees 24) c.wipes is hall_schema 12 wipes_table refl old new held.spelt.schema refl ADD_WIPE.now (wipes.values_of w) count ran.0
      wipes.given 3 (add_is of_wipes) w (number_is_free wipes.key_of wipe_columns (old.now.trees 24) c.wipes is id) (wipes.source w) refl (rw (value.cast-Int, value.cast-Null, value.cast-Int) refl) in
      within ADD_WIPE.now (wipes.values_of w) old new before c _ count held ran (sets of_wipes old.now new.now c held.spelt it.0.0 _ it.0.1 it.0.2)

  pub removes_wipe : (before : Hall) (c : HallRows) → Makes state_of REMOVE_WIPE.now (number id ∷ []) before c (with_wipe c id None)
  removes_wipe before c one other held count ran =
      let old = state_of one in
      let new = state_of other in
      let it = removes_kept numbers wipes.rowid wipes.item wipes.key_of wipe_columns (old.now.trees 24) c.wipes (held.spelt.tables.each of_wipes) hall_schema 12 wipes_table refl old new held.spelt.schema refl REMOVE_WIPE.now (number id ∷ [])
      (equals 0 0 ∷ []) refl remove_wipe_is count ran.0 (goes_alone of_wipes (λ is. cc)) id (λ w. equal_keys w.machine id) in
      within REMOVE_WIPE.now (number id ∷ []) old new before c _ count held ran (sets of_wipes old.now new.now c held.spelt it.0 _ it.1 it.2)
