-- The tables that were carried over spell the hall that the old one becomes.
use Rattle.sql_schema.specs.Words.{ascending-map, filter-map, map-map, IsPermutation-map, has_map, map_has, of_machines, SpellHall, Spells, is_in, wipe_of, length-map, Row, Table, Trees, Database, Has, Hall, second, StandUnder, AllByRecursion, list_any, option_to_list, how_many-listed, Rows, at, how_many, listed, no_rows, numbers, put, same_key, at-no_rows, at-put-other, at-put-same, key-same, same-key, Full, Machine, Wipe, machine_columns, AreRising-listed, at_listed, listed_at, listed_with_key, same_lists, row_of, sets, SetsRows, hall_schema, IsNumbered}
use Rattle.std.{proofs.Common.{subst₂, IsPermutation, ◌≡◌, ◌≢◌, ℕ, List, [], ◌∷◌, length, map, filter, Bool, true, false, Option, Some, None, Less, true≢false, refl, sym, ap, subst, ◌∙◌, option_map, if◌then◌else◌, ◌&&◌, ◌||◌}, specs.Prelude.option_and_then}
use Rattle.sql_tables.specs.Migrating.{IsCarriedOver, carried_rows, is_erasing, kind_put, kinds_put, with_full}

-- ---- the machines

module _ (was now : Rows numbers Machine) (stand : StandUnder (λ (m : Machine). m.id) was) (become : (id : ℕ) → at now id ≡ option_map with_full (at was id)) where
  becomes : (o : Option Machine) (m : Machine) → option_map with_full o ≡ Some m → (n : Machine) × (o ≡ Some n) × (m ≡ with_full n)
  becomes None m e = cc
  becomes (Some n) m e = let it : m ≡ with_full n = cc in (n, refl, it)

  pub now_stand : StandUnder (λ (m : Machine). m.id) now
  now_stand = λ id m there. let it = becomes (at was id) m (sym (become id) ∙ there) in ap (λ (k : Machine). k.id) it.2 ∙ stand id it.0 it.1

  -- they are listed as the old ones are
  pub listed_full : listed now ≡ map with_full (listed was)
  listed_full =
      same_lists numbers (λ (m : Machine). m.id) (listed now) (map with_full (listed was)) (AreRising-listed numbers (λ (m : Machine). m.id) now now_stand)
      (ascending-map (λ (a b : Machine). numbers.cmp a.id b.id ≡ Less) with_full (listed was) (AreRising-listed numbers (λ (m : Machine). m.id) was stand))
      (λ m h.
      let it = becomes (at was m.id) m (sym (become m.id) ∙ listed_at numbers (λ (k : Machine). k.id) now now_stand m h) in
      subst (Has (map with_full (listed was))) (sym it.2) (map_has with_full (listed was) it.0 (at_listed numbers (λ (k : Machine). k.id) was stand m.id it.0 it.1)))
      (λ m h.
      let it = has_map with_full (listed was) m h in
      let there : at was it.0.id ≡ Some it.0 = listed_at numbers (λ (k : Machine). k.id) was stand it.0 it.1 in
      at_listed numbers (λ (k : Machine). k.id) now now_stand it.0.id m (become it.0.id ∙ ap (option_map with_full) there ∙ ap (λ k. Some k) (sym it.2)))

  -- how disks are erased is in no column of theirs
  pub same_columns : (stored : List Row) → IsNumbered (λ (m : Machine). m.id) machine_columns stored was → IsNumbered (λ (m : Machine). m.id) machine_columns stored now
  same_columns stored is = record {
    entries = map with_full is.entries;
    spelt = is.spelt ∙ sym (map-map (row_of _ machine_columns) with_full is.entries);
    keyed = ascending-map _ with_full is.entries is.keyed;
    same = subst₂ IsPermutation (sym listed_full) (map-map with_full (λ m. m) is.entries ∙ sym (map-map (λ m. m) with_full is.entries)) (IsPermutation-map with_full _ _ is.same);
    under = now_stand;
  }

  -- nor in what is counted
  pub same_counts : (pool : List ℕ) (status : ℕ) → how_many (is_in pool status) was ≡ how_many (is_in pool status) now
  same_counts pool status =
      how_many-listed (is_in pool status) was
      ∙ sym (how_many-listed (is_in pool status) now ∙ ap (λ l. length (filter (is_in pool status) l)) listed_full ∙ ap length (filter-map (is_in pool status) with_full (listed was)) ∙ length-map _ with_full)

-- ---- their kinds of erasing

abbrev full : ℕ → Wipe
full id = record { machine = id; erase = Full }

abbrev none_put : Rows numbers Wipe
none_put = no_rows

abbrev is_erased : Machine → Bool
is_erased m = is_erasing m.status

abbrev with_id : ℕ → List Machine → List Machine
with_id id ms = filter (λ m. same_key numbers m.id id) ms

-- one machine has its row put, if it's erased or was to be
kind_at : (m : Machine) (wipes : Rows numbers Wipe) (id : ℕ) → at (kind_put m wipes) id ≡ (if same_key numbers m.id id && is_erased m then Some (full id) else at wipes id)
kind_at m wipes id = by (is_erased m) (same_key numbers m.id id) refl
  where
    by : (erased same : Bool) → same_key numbers m.id id ≡ same → at (if erased then put m.id (full m.id) wipes else wipes) id ≡ (if same && erased then Some (full id) else at wipes id)
    by true true is = subst (λ k. at (put m.id (full m.id) wipes) k ≡ Some (full k)) (key-same numbers m.id id is) (at-put-same wipes m.id (full m.id))
    by true false is = at-put-other wipes m.id (full m.id) id (λ same. true≢false (sym (same-key numbers id) ∙ subst (λ k. same_key numbers k id ≡ false) (sym same) is))
    by false true is = refl
    by false false is = refl

-- so have several
kinds_at : (ms : List Machine) (wipes : Rows numbers Wipe) (id : ℕ) → at (kinds_put ms wipes) id ≡ (if list_any is_erased (with_id id ms) then Some (full id) else at wipes id)
kinds_at [] wipes id = refl
kinds_at (m ∷ ms) wipes id = kinds_at ms (kind_put m wipes) id ∙ ap (λ o. if list_any is_erased (with_id id ms) then Some (full id) else o) (kind_at m wipes id) ∙ by (same_key numbers m.id id)
  where
    either : (erased others : Bool) → (if others then Some (full id) else (if erased then Some (full id) else at wipes id)) ≡ (if erased || others then Some (full id) else at wipes id)
    either true true = refl
    either true false = refl
    either false others = refl

    by : (same : Bool) → (if list_any is_erased (with_id id ms) then Some (full id) else (if same && is_erased m then Some (full id) else at wipes id)) ≡ (if list_any is_erased (if same then m ∷ with_id id ms else with_id id ms) then Some (full id) else at wipes id)
    by true = either (is_erased m) (list_any is_erased (with_id id ms))
    by false = refl

module _ (was : Rows numbers Machine) (stand : StandUnder (λ (m : Machine). m.id) was) (bare : (id : ℕ) (m : Machine) → at was id ≡ Some m → m.erase ≡ None) where
  pub kinds_are : (id : ℕ) → at (kinds_put (listed was) none_put) id ≡ option_and_then wipe_of (option_map with_full (at was id))
  kinds_are id =
      kinds_at (listed was) none_put id ∙ ap (λ ms. if list_any is_erased ms then Some (full id) else at none_put id) (listed_with_key numbers (λ (m : Machine). m.id) was stand id) ∙ by (at was id) refl
    where
      erased : (m : Machine) → m.id ≡ id → m.erase ≡ None → (b : Bool) → (if b || false then Some (full id) else at none_put id) ≡ wipe_of (record m { erase = if b then Some Full else m.erase })
      erased m same none true = ap (λ k. Some (full k)) (sym same)
      erased m same none false = at-no_rows numbers id none_put refl ∙ sym (ap (λ e. wipe_of (record m { erase = e })) none)

      by : (o : Option Machine) → at was id ≡ o → (if list_any is_erased (option_to_list o) then Some (full id) else at none_put id) ≡ option_and_then wipe_of (option_map with_full o)
      by None is = at-no_rows numbers id none_put refl
      by (Some m) is = erased m (stand id m is) (bare id m is) (is_erased m)

-- ---- all of it

-- no table changes
all_same : (db : Trees) (tree : ℕ) (tables : List Table) → AllByRecursion (λ (t : Table). t.tree ≢ tree → db t.tree ≡ db t.tree) tables
all_same db tree [] = tt
all_same db tree (t ∷ ts) = (λ other. refl, all_same db tree ts)

pub spells_carried : (db : Database) (h next : Hall) → ((id : ℕ) (m : Machine) → at h.machines id ≡ Some m → m.erase ≡ None) → IsCarriedOver h next → Spells db (carried_rows h) → SpellHall db.trees next
spells_carried db h next bare over was =
    let stand = (was.tables.each of_machines).under in
    let still : SetsRows hall_schema 11 db db (db.trees 11) = record { same_schema = was.schema; sound = was.tables.sound; table = refl; others = all_same db.trees 11 hall_schema.tables } in
    let now = sets of_machines db db (carried_rows h) was (db.trees 11) next.machines still (same_columns h.machines next.machines stand over.machines (db.trees 11) (was.tables.each of_machines)) in
    subst (λ (x : Hall). SpellHall db.trees x) (sym over.others) (record {
      hall_rows = record (carried_rows h) { hall = record h { schema = second; machines = next.machines } };
      tables = now.tables;
      agrees = record {
        hall = refl;
        counts = same_counts h.machines next.machines stand over.machines;
        wipes = λ id. kinds_are h.machines stand bare id ∙ sym (ap (option_and_then wipe_of) (over.machines id));
      };
    })
