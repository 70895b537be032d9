-- What each statement of a new hall makes of the tables.
use Rattle.sql_schema.specs.{Words.{hall_schema, hall_table, operators_table, pools_table, AllByRecursion, IsPermutation-refl, Null, Int, Text, Row, KeepsRows, next_tree, Database, Schema, Table, lit, Trees, State, Keys, numbers, texts, at, put, no_rows, listed, pairs, at-no_rows, none_size, none_pass, length-listed, Hall, default_pool, new_hall, second, IsSound, Admin, Numbers, Operator, Pool, makes_table, makes_index, MakesOne, inserts, CountRow, operator_columns, pool_columns, numbers_row, number, IsKept, HallRows, pools, operators, adds_kept, sets, at_table, option_to_list, in_rows, Spells, SpellHall, is_in, wipe_of, TableName, described, count_key, of_last, of_operators, of_pools, of_images, of_counts, of_wipes, add_is}, declared.creating.TheConstants.{ADD_OPERATOR, ADD_POOL, FIRST_NUMBERS}}
use Rattle.std.{proofs.{Common.{inl, inr, true, ◌≡◌, ◌≢◌, ◌++◌, ℕ, pos, List, [], ◌∷◌, length, map, None, Some, refl, sym, ap, subst, ◌∙◌, arith, IsPermutation, ℤ}, lemmas.List.nil_from_length}, specs.Prelude.option_and_then}
use Rattle.sql_schema.specs.ValueLaws as value
use Rattle.sql_tables.specs.{Creating.{CanMake, HasNoRows, bare_hall, without_kinds}, Migrating.{AreFirstRows, as_second, is_first}, Running.IsRun}

-- ---- tables and indexes

keep_no_rows : (tables : List Table) (old new : Trees) → KeepsRows tables old new → AllByRecursion (λ (t : Table). old t.tree ≡ []) tables → AllByRecursion (λ (t : Table). new t.tree ≡ []) tables
keep_no_rows [] old new kept none = tt
keep_no_rows (t ∷ ts) old new kept none = (kept.0 ∙ none.0, keep_no_rows ts old new kept.1 none.1)

one_more : (tables : List Table) (t : Table) (db : Trees) → AllByRecursion (λ (u : Table). db u.tree ≡ []) tables → db t.tree ≡ [] → AllByRecursion (λ (u : Table). db u.tree ≡ []) (tables ++ t ∷ [])
one_more [] t db none one = (one, tt)
one_more (u ∷ us) t db none one = (none.0, one_more us t db none.1 one)

module _ {old new : State} {sql : List ℕ} (run : IsRun sql [] old new) where
  -- the text makes its table or index, and no table has a row still
  one_made : (before after : Schema) → MakesOne before sql after → HasNoRows old.now before → HasNoRows new.now after
  one_made before after (inl (t, makes)) was =
      let it = makes_table before after sql (record t { tree = 0 }) makes.text makes.defined makes.next makes.unlisted old new run.count was.schema run.ran in
      record {
        schema = it.0;
        empty = subst (λ (s : Schema). AllByRecursion (λ (u : Table). new.now.trees u.tree ≡ []) s.tables) makes.next
            (one_more before.tables (record t { tree = next_tree before }) new.now.trees (keep_no_rows before.tables old.now.trees new.now.trees it.2 was.empty) it.1);
      }
  one_made before after (inr (place, t, i, makes)) was =
      let it = makes_index before after sql place t (record i { tree = 0 }) makes.text makes.there makes.defined makes.next old new run.count was.schema run.ran in
      record {
        schema = it.0;
        empty = subst (λ (s : Schema). AllByRecursion (λ (u : Table). new.now.trees u.tree ≡ []) s.tables) makes.next (keep_no_rows before.tables old.now.trees new.now.trees it.1 was.empty);
      }

  -- and the texts that are left can make what is left
  pub made_one : (more : List (List ℕ)) (after : Schema) → CanMake old.now (sql ∷ more) after → CanMake new.now more after
  made_one more after can = (can.2.0, one_made can.0 can.2.0 can.2.1 can.1, can.2.2)

-- once no text is left
pub all_made : {db : Database} {after : Schema} → CanMake db [] after → HasNoRows db after
all_made {db = db} can = subst (HasNoRows db) can.2 can.1

-- ---- tables without rows

nothing_listed : {K X : Type 0} (keys : Keys K) → ◌≡◌ {A = List X} (listed {keys = keys} no_rows) []
nothing_listed keys = nil_from_length (listed {keys = keys} no_rows) (length-listed no_rows ∙ none_size keys no_rows refl)

none_stands : {K X : Type 0} (keys : Keys K) (key_of : X → K) (key : K) (row : X) → at {keys = keys} no_rows key ≡ Some row → key_of row ≡ key
none_stands keys key_of key row there = absurd (let e = sym (at-no_rows keys key no_rows refl) ∙ there in cc)

no_kept : {K X E : Type 0} (keys : Keys K) (rowid : E → ℤ) (item : E → X) (key_of : X → K) (columns : X → Row) → IsKept {keys = keys} rowid item key_of columns [] no_rows
no_kept keys rowid item key_of columns = record {
  entries = [];
  spelt = refl;
  keyed = tt;
  same = subst (λ l. IsPermutation l []) (sym (nothing_listed keys)) (IsPermutation-refl []);
  under = none_stands keys key_of;
}

-- ---- `hall` gets its row

-- the tables other than `hall` stay where only `hall` changes
pub rest_stays : (old new : Trees) → AllByRecursion (λ (t : Table). t.tree ≢ 0 → new t.tree ≡ old t.tree) hall_schema.tables → (t : TableName) → is_first t ≡ true → new (described t).table.tree ≡ old (described t).table.tree
rest_stays old new others t first = at_table (λ (u : Table). u.tree ≢ 0 → new u.tree ≡ old u.tree) others t (not_hall t first)
  where
    not_hall : (t : TableName) → is_first t ≡ true → (described t).table.tree ≢ 0
    not_hall of_last first is = cc
    not_hall t first is = cc

pub kinds_stay : (old new : Trees) → AllByRecursion (λ (t : Table). t.tree ≢ 0 → new t.tree ≡ old t.tree) hall_schema.tables → new 24 ≡ old 24
kinds_stay old new others = at_table (λ (u : Table). u.tree ≢ 0 → new u.tree ≡ old u.tree) others of_wipes (λ is. cc)

-- once `hall` names the second schema, the tables spell the rows that the others had and have
pub hall_named : (old : Trees) (new : Database) (h : Hall) → AreFirstRows old h → ((t : TableName) → is_first t ≡ true → new.trees (described t).table.tree ≡ old (described t).table.tree) → new.trees 24 ≡ []
    → new.schema ≡ hall_schema → IsSound hall_schema new.trees → new.trees 0 ≡ numbers_row h.last ∷ [] → Spells new (as_second h)
hall_named old new h was stays none schema sound last = record { schema = schema; tables = record { sound = sound; schema = refl; each = each } }
  where
    each : (t : TableName) → (described t).stores (new.trees (described t).table.tree) ((described t).held (as_second h))
    each of_last = last
    each of_wipes = subst (λ rows. (described of_wipes).stores rows no_rows) (sym none) (no_kept numbers _ _ _ _)
    each t = subst (λ rows. (described t).stores rows ((described t).held (as_second h))) (sym (stays t refl)) (was.each t refl)

-- ---- the rows of a new hall

-- tables without rows are those of a hall without anything
bare_rows : (db : Trees) → ((t : TableName) → db (described t).table.tree ≡ []) → AreFirstRows db bare_hall
bare_rows db none = record {
  each = λ t first. subst (λ rows. (described t).stores rows ((described t).held (without_kinds bare_hall))) (sym (none t)) (bare t first);
  kinds = λ id m there. absurd (let e = sym (at-no_rows numbers id no_rows refl) ∙ there in cc);
}
  where
    bare : (t : TableName) → is_first t ≡ true → (described t).stores [] ((described t).held (without_kinds bare_hall))
    bare of_last first = absurd cc
    bare of_wipes first = absurd cc
    bare of_images first = record { named = no_kept texts _ _ _ _; words = λ name i there. absurd (let e = sym (at-no_rows _ name no_rows refl) ∙ there in cc) }
    bare of_counts first = record {
      rows = no_rows;
      table = no_kept pairs _ _ _ _;
      counted = λ pool status. ap (λ o. map (λ (c : CountRow). c.machines) (option_to_list o)) (at-no_rows pairs (count_key pool status) no_rows refl)
          ∙ ap in_rows (sym (none_pass {keys = numbers} (is_in pool status) no_rows (λ key row there. absurd (let e = sym (at-no_rows numbers key no_rows refl) ∙ there in cc))));
    }
    bare t first = no_kept _ _ _ _ _

abbrev hall_columns : Numbers → Row
hall_columns last = Null ∷ number 2 ∷ number last.machine ∷ number last.boot ∷ number last.order ∷ []

-- the first row of `hall`
numbers_put : {old new : State} → IsRun FIRST_NUMBERS.now [] old new → HasNoRows old.now hall_schema → Spells new.now (without_kinds bare_hall)
numbers_put {old = old} {new = new} run was =
    let set = (inserts (λ (last : Numbers). pos 1) hall_columns hall_schema 0 hall_table refl old new was.schema [] was.empty.0 FIRST_NUMBERS.now []
    (lit (Int (pos 1)) ∷ lit Null ∷ lit (Int (pos 2)) ∷ lit (Int (pos 0)) ∷ lit (Int (pos 0)) ∷ lit (Int (pos 0)) ∷ []) 6 (add_is of_last) run.count run.ran
    bare_hall.last (numbers_row bare_hall.last) refl (rw (value.cast-Int, value.cast-Null, value.cast-Int, value.cast-Int) refl)).0 in
    let none = at_table (λ (t : Table). old.now.trees t.tree ≡ []) was.empty in
    hall_named old.now.trees new.now bare_hall (bare_rows old.now.trees none) (rest_stays old.now.trees new.now.trees set.others) (kinds_stay old.now.trees new.now.trees set.others ∙ none of_wipes) set.same_schema set.sound set.table

-- a pool in a database that spells such rows
pool_put : {old new : State} (c : HallRows) (p : Pool) → at c.hall.pools p.name ≡ None → IsRun ADD_POOL.now (Text p.name ∷ []) old new → Spells old.now c → Spells new.now (record c { hall = record c.hall { pools = put p.name p c.hall.pools } })
pool_put {old = old} {new = new} c p free run was =
    let it = adds_kept texts pools.rowid pools.item pools.key_of pool_columns (old.now.trees 4) c.hall.pools (was.tables.each of_pools) hall_schema 2 pools_table refl old new was.schema refl ADD_POOL.now (Text p.name ∷ []) run.count run.ran
    pools.given 2 (add_is of_pools) (pools.entry (old.now.trees 4) p) (λ _. free) (pools.source p) refl (rw value.cast-Null refl) in
    sets of_pools old.now new.now c was it.0.0 _ it.0.1 it.0.2

-- an operator in a database that spells such rows
operator_put : {old new : State} (c : HallRows) (o : Operator) → at c.hall.operators o.name ≡ None → IsRun ADD_OPERATOR.now (operator_columns o) old new → Spells old.now c → Spells new.now (record c { hall = record c.hall { operators = put o.name o c.hall.operators } })
operator_put {old = old} {new = new} c o free run was =
    let it = adds_kept texts operators.rowid operators.item operators.key_of operator_columns (old.now.trees 1) c.hall.operators (was.tables.each of_operators) hall_schema 1 operators_table refl old new was.schema refl ADD_OPERATOR.now (operator_columns o) run.count run.ran
    operators.given 5 (add_is of_operators) (operators.entry (old.now.trees 1) o) (λ _. free) (operators.source o) refl (rw (value.cast-Null, value.cast-Int, value.cast-Int) refl) in
    sets of_operators old.now new.now c was it.0.0 _ it.0.1 it.0.2

-- the rows of a new hall
pub rows_put : {a b c d : State} (admin digest : List ℕ) → IsRun FIRST_NUMBERS.now [] a b → IsRun ADD_POOL.now (Text default_pool ∷ []) b c → IsRun ADD_OPERATOR.now (operator_columns (record { name = admin; role = Admin; digest = digest; enabled = true })) c d
    → HasNoRows a.now hall_schema → Spells d.now (without_kinds (new_hall second admin digest))
rows_put admin digest first pool operator was =
    let bare = without_kinds bare_hall in
    let with_pool = pool_put bare (record { name = default_pool }) (at-no_rows texts default_pool no_rows refl) pool (numbers_put first was) in
    operator_put _ (record { name = admin; role = Admin; digest = digest; enabled = true }) (at-no_rows texts admin no_rows refl) operator with_pool

-- where there is no machine, none is erased
pub spells_new : {db : Database} (h : Hall) → h.machines ≡ no_rows → Spells db (without_kinds h) → SpellHall db.trees h
spells_new h none was = record {
  hall_rows = without_kinds h;
  tables = was.tables;
  agrees = record {
    hall = refl;
    counts = λ pool status. refl;
    wipes = λ id. at-no_rows numbers id no_rows refl ∙ sym (ap (option_and_then wipe_of) (at-no_rows numbers id h.machines none));
  };
}
