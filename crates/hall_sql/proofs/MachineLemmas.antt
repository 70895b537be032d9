-- A machine's row, read and put.
use Rattle.sql_schema.specs.{Words.{equal_keys, finds_kept, machines, Counts, HallRows, numbers, at, put, of_machines, AreRowsOf, Spells, SpellHall, option_to_list, Database, Error, Text, Row, column, State, Shown, Hall, status_number, Machine, number, machine_columns, machine_values, IsWithin, equals, shown_answer, query_keeps, query_mode, shown_same, hall_schema, find_is, same_kind, status_by_number}, declared.creating.TheConstants.FIND_MACHINE, Steps.IsStep, TableStatements.with_item}
use Rattle.std.proofs.Common.{◌≡◌, ℕ, List, [], ◌∷◌, Option, Some, None, Ok, option_map, map, refl, sym, ap, ap₂, subst, ◌∙◌}
use Rattle.hall_store.specs.Versions.{version_of}
use Rattle.sql_items.specs.{Machines.HasVersion, Wipes.with_wipe, WipeLaws.wipes_put}
use Rattle.hall_sql.{specs.{Machines.{group_of, with_row}, Within.IsWithinHall, declared.groups.Group.Group}, proofs.GroupLemmas.AreCounted}

-- a read of a machine's row
pub finds_machine : (old new : State) (id : ℕ) (rows : List Row) → Shown FIND_MACHINE.now (number id ∷ []) old new rows
    → IsStep old new {E = Error} (Ok rows) (λ rows. (before h : Hall) → IsWithinHall old before h → (rows ≡ map machine_values (option_to_list (at h.machines id))) × IsWithinHall new before h)
finds_machine old new id rows shown = record {
  gives = λ before h held.
      let c = held.hall_rows in
      let within = held.within in
      let answer = shown_answer hall_schema FIND_MACHINE.now (find_is of_machines) (number id ∷ []) old new rows within.spelt.schema shown in
      let same = shown_same FIND_MACHINE.now (number id ∷ []) hall_schema (find_is of_machines).plain old new rows within.spelt.schema shown in (
        finds_kept numbers machines.rowid machines.item machines.key_of machine_columns (old.now.trees 11) c.hall.machines (within.spelt.tables.each of_machines) _ 11 (equals 0 0 ∷ []) machines.shown [] (number id ∷ [])
            old.now.trees refl refl rows answer id (λ m. equal_keys m.id id) machine_values (λ m. refl)
            ∙ ap (λ (x : Hall). map machine_values (option_to_list (at x.machines id))) held.agrees.hall,
        record {
          hall_rows = c;
          within = record {
            spelt = subst (λ (d : Database). Spells d c) (sym same.0.now_is) within.spelt;
            committed_schema = ap (λ (d : Database). d.schema) same.0.committed_is ∙ within.committed_schema;
            kept = subst (λ (d : Database). SpellHall d.trees before) (sym same.0.committed_is) within.kept;
            mode = same.0.mode ∙ within.mode;
          };
          agrees = held.agrees;
        },
      );
  mode = query_mode old new FIND_MACHINE.now _ rows shown;
  kept = query_keeps old new FIND_MACHINE.now _ (λ (rows : List Row). rows) (Ok rows) shown tt;
}

-- a group that was read from the row of a machine
pub group_is : (row : Row) (group : Group) → column row 3 ≡ Text group.pool → column row 4 ≡ number (status_number group.status) → (m : Machine) → row ≡ machine_values m → group ≡ group_of m
group_is row group pool status m is =
    let texts : Text group.pool ≡ Text m.pool = sym pool ∙ ap (λ r. column r 3) is in
    let numbers : number (status_number group.status) ≡ number (status_number m.status) = sym status ∙ ap (λ r. column r 4) is in
    let same_pool : group.pool ≡ m.pool = cc in
    let same_number : status_number group.status ≡ status_number m.status = cc in
    ap₂ (λ a b. record { pool = a; status = b }) same_pool (same_kind status_by_number group.status m.status same_number)

-- where a group was found, its machine is there
pub there_is : (o : Option Machine) (group : Group) → Some group ≡ option_map group_of o → (there : Machine) × (o ≡ Some there) × (group ≡ group_of there)
there_is None group found = absurd cc
there_is (Some m) group found = (m, refl, cc)

pub none_there : (o : Option Machine) → None ≡ option_map group_of o → o ≡ None
none_there None found = refl
none_there (Some m) found = cc

pub version_is : (c : HallRows) (h : Hall) → c.hall ≡ h → (id was : ℕ) → HasVersion c id was → Some was ≡ version_of h id
version_is c h same id was has = sym (ap (option_map (λ (m : Machine). m.version)) (ap (λ (x : Hall). at x.machines id) (sym same) ∙ has.1) ∙ ap (λ n. Some n) has.2)

-- a machine's row, the counts and its kind of erasing were put
pub puts_whole : (s : State) (before h : Hall) (c : HallRows) → AreRowsOf h c → (m : Machine) (all : Counts) → AreCounted all (put m.id m h.machines) → IsWithin s before (with_wipe (record (with_item machines c m) { counts = all }) m.id m.erase)
    → IsWithinHall s before (with_row h m)
puts_whole s before h c agrees m all counts within = record {
  hall_rows = with_wipe (record (with_item machines c m) { counts = all }) m.id m.erase;
  within = within;
  agrees = record { hall = ap (λ x. with_row x m) agrees.hall; counts = counts; wipes = wipes_put c.wipes h.machines agrees.wipes m };
}
