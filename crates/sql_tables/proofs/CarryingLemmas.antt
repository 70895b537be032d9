-- What each statement of the transaction makes of the tables that are carried over.
use Rattle.sql_schema.specs.{Words.{all-slice_get, machines, wipes, HallRows, lists_kept, adds_kept, rises, number_is_free, sets, TableName, described, of_last, of_machines, of_wipes, Spells, numbers, listed, put, Null, Int, Database, Row, column, lit, op2, Binary, State, Shown, Compare, Eq, filter_all, all_of, Hall, erase_number, Full, Machine, Numbers, Status, status_number, never_follows, Wipe, number, machine_columns, machine_values, wipe_columns, and_true, list_machines_is, cell, rising, shown_answer, makes_table, shown_same, IsCommandText, changes, hall_schema, hall_table, wipes_table, Table, add_is, same_kind, status_by_number}, declared.creating.TheConstants.{CREATE_WIPES, ADD_WIPE, LIST_MACHINES}}
use Rattle.sql_tables.{specs.{Migrating.{is_first, carried_rows, IsFirst, as_second, first_schema, is_erasing, set_schema_command, set_schema_text, with_kind_of, with_kinds_of}, Running.IsRun}, proofs.MakingLemmas.{rest_stays, kinds_stay, hall_named}}
use Rattle.std.proofs.Common.{slice_get, ◌≡◌, ℕ, pos, List, [], ◌∷◌, map, Bool, true, refl, sym, ap, subst, ◌∙◌, arith, Some, if◌then◌else◌}
use Rattle.sqlite.specs.Listing.{understood}
use Rattle.sqlite_tied.specs.Compute.{everything}
use Rattle.sql_schema.specs.SchemaLaws as law
use Rattle.sql_schema.specs.ValueLaws as value

-- ---- the tables of the second schema

-- the tables of the first schema are where they are in the second
there_first : (t : TableName) → is_first t ≡ true → slice_get first_schema.tables (described t).place ≡ Some (described t).table
there_first of_last first = absurd cc
there_first of_wipes first = absurd cc
there_first t first = refl

set_schema_is : IsCommandText hall_schema set_schema_text set_schema_command
unfolding understood everything
set_schema_is = record { is = refl; plain = (refl, refl) }

-- the columns of the one row after its rowid, of a schema with this number
abbrev columns : ℕ × Numbers → Row
columns x = Null ∷ number x.0 ∷ number x.1.machine ∷ number x.1.boot ∷ number x.1.order ∷ []

-- the table of kinds of erasing is made, and `hall` names the second schema
second_made : {a b c : State} → IsRun CREATE_WIPES.now [] a b → IsRun set_schema_text [] b c → (h : Hall) → IsFirst a.now h → Spells c.now (as_second h)
second_made {a = a} {b = b} {c = c} make set h was =
    let makes = law.creates of_wipes in
    let made = makes_table first_schema hall_schema CREATE_WIPES.now (record wipes_table { tree = 0 }) makes.text makes.defined makes.next makes.unlisted a b make.count was.schema make.ran in
    let changed = changes (λ (x : ℕ × Numbers). pos 1) columns hall_schema 0 hall_table refl b c made.0 ((1, h.last) ∷ []) (made.2.0 ∙ was.spelt.last) (op2 (Compare Eq Binary) (cell 0) (lit (Int (pos 1))) ∷ []) [] (λ x. true)
    (λ x. and_true _ ∙ value.same_number (pos 1) (pos 1)) (tt, tt) refl (cell 0 ∷ lit Null ∷ lit (Int (pos 2)) ∷ cell 3 ∷ cell 4 ∷ cell 5 ∷ []) (omega arith) never_follows (λ x. (2, x.1)) (λ x. refl)
    (λ x. rw (value.cast-Int, value.cast-Null, value.cast-Int, value.cast-Int, value.cast-Int, value.cast-Int) refl) set_schema_text set_schema_is set.count set.ran in
    hall_named a.now.trees c.now h was.spelt.rows
    (λ t first. rest_stays b.now.trees c.now.trees changed.others t first ∙ all-slice_get (λ (u : Table). b.now.trees u.tree ≡ a.now.trees u.tree) first_schema.tables _ _ (there_first t first) made.2)
    (kinds_stay b.now.trees c.now.trees changed.others ∙ made.1) changed.same_schema changed.sound changed.table

-- ---- the rows of machines

machines_shown : (old new : State) (rows : List Row) → Shown LIST_MACHINES.now [] old new rows → (c : HallRows) → Spells old.now c
    → (rows ≡ map machine_values (listed c.hall.machines)) × Spells new.now c
machines_shown old new rows got c was = (
  lists_kept numbers machines.rowid machines.item machines.key_of machine_columns (old.now.trees 11) c.hall.machines (was.tables.each of_machines) _ 11 [] machines.shown (rising 0 ∷ []) [] old.now.trees refl refl rows
      (shown_answer hall_schema LIST_MACHINES.now list_machines_is [] old new rows was.schema got)
      (λ _. true) (λ m. refl) (λ m. (number m.id ∷ [], machine_values m)) (λ m. refl) (λ one other low. rises one.id other.id low)
      ∙ ap (map machine_values) (filter_all (λ _. true) _ (all_of (λ _. true ≡ true) (λ _. refl) _)),
  let same = shown_same LIST_MACHINES.now [] hall_schema list_machines_is.plain old new rows was.schema got in subst (λ (d : Database). Spells d c) (sym same.0.now_is) was,
)

-- ---- kinds of erasing

pub full_put : {old new : State} (id : ℕ) → IsRun ADD_WIPE.now (number id ∷ number (erase_number Full) ∷ []) old new → (c : HallRows) → Spells old.now c
    → Spells new.now (record c { wipes = put id (record { machine = id; erase = Full }) c.wipes })
full_put {old = old} {new = new} id run c was =
    let w : Wipe = record { machine = id; erase = Full } in
    let is = was.tables.each of_wipes in
    let it = adds_kept numbers wipes.rowid wipes.item wipes.key_of wipe_columns (old.now.trees 24) c.wipes is hall_schema 12 wipes_table refl old new was.schema refl ADD_WIPE.now (wipes.values_of w) run.count run.ran
    wipes.given 3 (add_is of_wipes) w (number_is_free wipes.key_of wipe_columns (old.now.trees 24) c.wipes is id) (wipes.source w) refl (rw (value.cast-Int, value.cast-Null, value.cast-Int) refl) in
    sets of_wipes old.now new.now c was it.0.0 _ it.0.1 it.0.2

-- the machine in a row
module _ (row : Row) (m : Machine) (row_is : row ≡ machine_values m) (id : ℕ) (status : Status) (id_is : column row 0 ≡ number id) (status_is : column row 4 ≡ number (status_number status)) where
  its_id : id ≡ m.id
  its_id = let e : number m.id ≡ number id = sym (ap (λ r. column r 0) row_is) ∙ id_is in cc

  its_status : status ≡ m.status
  its_status =
      let e : number (status_number m.status) ≡ number (status_number status) = sym (ap (λ r. column r 4) row_is) ∙ status_is in
      let numbers_are : status_number status ≡ status_number m.status = cc in
      same_kind status_by_number status m.status numbers_are

  -- its kind is put, if its disks are to be erased or were to be
  pub kind_made : (b : Bool) → is_erasing status ≡ b → (db : Database) (c : HallRows) → Spells db (record c { wipes = if b then put id (record { machine = id; erase = Full }) c.wipes else c.wipes }) → Spells db (with_kind_of c m)
  kind_made b is db c spells =
      subst (λ e. Spells db (record c { wipes = if e then put m.id (record { machine = m.id; erase = Full }) c.wipes else c.wipes })) (sym (ap is_erasing (sym its_status) ∙ is))
      (subst (λ n. Spells db (record c { wipes = if b then put n (record { machine = n; erase = Full }) c.wipes else c.wipes })) its_id spells)

-- ---- the rows that are left

-- the rows that are left are those of machines, whose kinds make these tables of those so far
pub record AreLeft (rows : List Row) (db : Database) (end : HallRows) : Type 0 where
  pub machines : List Machine
  pub are : rows ≡ map machine_values machines
  pub so_far : HallRows
  pub spelt : Spells db so_far
  pub makes : with_kinds_of so_far machines ≡ end

pub left_next : (row : Row) (more : List Row) (old new : Database) (end : HallRows) → AreLeft (row ∷ more) old end → ((c : HallRows) (m : Machine) → row ≡ machine_values m → Spells old c → Spells new (with_kind_of c m)) → AreLeft more new end
left_next row more old new end left put = by left.machines left.are left.makes
  where
    by : (ms : List Machine) → row ∷ more ≡ map machine_values ms → with_kinds_of left.so_far ms ≡ end → AreLeft more new end
    by [] are makes = absurd cc
    by (m ∷ ms) are makes =
        let first : row ≡ machine_values m = cc in
        record { machines = ms; are = cc; so_far = with_kind_of left.so_far m; spelt = put left.so_far m first left.spelt; makes = makes }

pub left_none : (db : Database) (end : HallRows) → AreLeft [] db end → Spells db end
left_none db end left = by left.machines left.are left.makes
  where
    by : (ms : List Machine) → ◌≡◌ {A = List Row} [] (map machine_values ms) → with_kinds_of left.so_far ms ≡ end → Spells db end
    by [] are makes = subst (Spells db) makes left.spelt
    by (m ∷ ms) are makes = absurd cc

-- ---- all of it

pub carried : (a b c d e : State) (rows : List Row) → IsRun CREATE_WIPES.now [] a b → IsRun set_schema_text [] b c → Shown LIST_MACHINES.now [] c d rows
    → ((c : HallRows) (ms : List Machine) → rows ≡ map machine_values ms → Spells d.now c → Spells e.now (with_kinds_of c ms)) → (h : Hall) → IsFirst a.now h → Spells e.now (carried_rows h)
carried a b c d e rows make set shown put h was =
    let listed_rows = machines_shown c d rows shown (as_second h) (second_made make set h was) in put (as_second h) (listed h.machines) listed_rows.0 listed_rows.1
