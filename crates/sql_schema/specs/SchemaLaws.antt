-- Laws of the schema of a hall, for the proofs of callers: the texts make it, each its table or index; what reads the tables and adds rows is a statement over it; and what a write of a table sets off in the others.
use Rattle.std.proofs.Common.{refl, ◌++◌, ℕ, List, map, drop, get_or, length, ◌+◌, inl, inr, ◌≡◌, ◌≢◌, [], ◌∷◌, Some}
use Rattle.sql_schema.specs.{Prelude.{AllByRecursion, IsPlain, Table, Term, Key, filter_map, Row, Trees, plain, parent_key, Enforced, works, work_for, all-flat_map, Insert, Values}, Creating.{MakesAll, MakesIndex, MakesTable, Reads, ReadsEach, all_cells}, Described.{TableName, of_operators, of_pools, of_members, of_images, of_lives, of_machines, of_interfaces, of_boots, of_orders, of_receipts, of_counts, of_wipes, of_last, described, machines, stage, no_schema, hall_schema, all_tables, interfaces_table, boots_table, orders_table, wipes_table, interfaces_index, boots_index, orders_index}, Queries.from_one, Statements.{IsCommandText, IsQueryText}, Tables.belongs_to_machine, declared.creating.TheConstants.{CREATE_ALL, INDEX_BOOTS, INDEX_INTERFACES, INDEX_ORDERS, LIST_MACHINES, READ_FIRST, READ_SECOND}, Cascades.{IsIdle, cascade, NeverFollows}, CascadeStepLaws.child_is_idle}
use Rattle.sqlite_tied.specs.Compute.{everything}
use Rattle.sqlite.specs.Listing.{understood}

-- ---- the texts that make it

-- how many indexes there are before the text of the table at each place, and after it
abbrev indexes_before : List ℕ
indexes_before = 0 ∷ 0 ∷ 2 ∷ 3 ∷ 4 ∷ 5 ∷ 5 ∷ 6 ∷ 7 ∷ 7 ∷ 7 ∷ 8 ∷ 12 ∷ []

abbrev indexes_after : List ℕ
indexes_after = 0 ∷ 2 ∷ 3 ∷ 4 ∷ 5 ∷ 5 ∷ 6 ∷ 7 ∷ 7 ∷ 7 ∷ 8 ∷ 9 ∷ 12 ∷ []

-- the text that makes a table does
pub creates : (t : TableName)
    → MakesTable (stage (described t).place (get_or indexes_before (described t).place 0)) (described t).create (described t).table (stage ((described t).place + 1) (get_or indexes_after (described t).place 0))
unfolding understood everything
creates of_last = record { text = record { text = record { is = refl; plain = (refl, refl) }; whole = refl }; defined = refl; next = refl; unlisted = refl }
creates t = record { text = record { text = record { is = refl; plain = (refl, refl) }; whole = refl }; defined = refl; next = refl; unlisted = refl }

index_interfaces : MakesIndex (stage 12 9) INDEX_INTERFACES.now 7 interfaces_table interfaces_index (stage 12 10)
unfolding understood everything
index_interfaces = record { text = record { text = record { is = refl; plain = (refl, refl) }; whole = refl }; there = refl; defined = refl; next = refl }

index_boots : MakesIndex (stage 12 10) INDEX_BOOTS.now 8 boots_table boots_index (stage 12 11)
unfolding understood everything
index_boots = record { text = record { text = record { is = refl; plain = (refl, refl) }; whole = refl }; there = refl; defined = refl; next = refl }

index_orders : MakesIndex (stage 12 11) INDEX_ORDERS.now 9 orders_table orders_index (stage 12 12)
unfolding understood everything
index_orders = record { text = record { text = record { is = refl; plain = (refl, refl) }; whole = refl }; there = refl; defined = refl; next = refl }

abbrev hall_texts : List (List ℕ)
hall_texts = map (λ text. text.now) CREATE_ALL.now

-- these texts make the second schema where there is none
pub makes_second : MakesAll no_schema hall_texts hall_schema
makes_second =
    let fourth : MakesAll (stage 12 9) (drop 12 hall_texts) hall_schema =
    (_, inr (_, _, _, index_interfaces), (_, inr (_, _, _, index_boots), (_, inr (_, _, _, index_orders), (_, inl (_, creates of_wipes), refl)))) in
    let third : MakesAll (stage 8 7) (drop 8 hall_texts) hall_schema =
    (_, inl (_, creates of_boots), (_, inl (_, creates of_orders), (_, inl (_, creates of_receipts), (_, inl (_, creates of_counts), fourth)))) in
    let second : MakesAll (stage 4 4) (drop 4 hall_texts) hall_schema =
    (_, inl (_, creates of_images), (_, inl (_, creates of_lives), (_, inl (_, creates of_machines), (_, inl (_, creates of_interfaces), third)))) in
    (_, inl (_, creates of_last), (_, inl (_, creates of_operators), (_, inl (_, creates of_pools), (_, inl (_, creates of_members), second))))

-- ---- and what names all columns

-- the text that reads rows of a table is its query
pub find_is : (t : TableName) → IsQueryText hall_schema (described t).find (described t).query
unfolding understood everything
find_is of_last = record { names = _; is = refl; plain = (refl, refl); unlisted = refl }
find_is t = record { names = _; is = refl; plain = (refl, refl); unlisted = refl }

-- and the text that adds a row gives its values
pub add_is : (t : TableName) → IsCommandText hall_schema (described t).add (Insert (described t).place (Values (described t).given (length (described t).given)))
unfolding understood everything
add_is of_last = record { is = refl; plain = (refl, refl) }
add_is t = record { is = refl; plain = (refl, refl) }

-- all machines
pub list_machines_is : IsQueryText hall_schema LIST_MACHINES.now (from_one machines.table.tree [] machines.shown machines.by_key)
unfolding understood everything
list_machines_is = record { names = _; is = refl; plain = (refl, refl); unlisted = refl }

reads : {sql : List ℕ} {t : Table} {filters : List Term} {order : List (Term × Key)} → IsQueryText hall_schema sql (from_one t.tree filters (all_cells t) order) → Reads sql t
reads text = record { filters = _; order = _; text = text }

-- what a file is asked for reads each table after `hall`, with all its columns
pub reads_each : ReadsEach (map (λ text. text.now) READ_FIRST.now ++ map (λ text. text.now) READ_SECOND.now) (drop 1 all_tables)
reads_each =
    let later : ReadsEach (drop 6 (map (λ text. text.now) READ_FIRST.now ++ map (λ text. text.now) READ_SECOND.now)) (drop 7 all_tables) = (reads (find_is of_interfaces), (reads (find_is of_boots), (reads (find_is of_orders), (reads (find_is of_receipts), (reads (find_is of_counts), (reads (find_is of_wipes), tt)))))) in
    (reads (find_is of_operators), (reads (find_is of_pools), (reads (find_is of_members), (reads (find_is of_images), (reads (find_is of_lives), (reads (find_is of_machines), later))))))

-- each is a statement over the tables of a hall
pub reads_plain : AllByRecursion (λ sql. IsPlain (understood hall_schema sql)) (map (λ text. text.now) READ_SECOND.now ++ map (λ text. text.now) READ_FIRST.now)
reads_plain =
    let later : AllByRecursion (λ sql. IsPlain (understood hall_schema sql)) (map (λ text. text.now) (drop 6 READ_FIRST.now)) =
    ((find_is of_interfaces).plain, ((find_is of_boots).plain, ((find_is of_orders).plain, ((find_is of_receipts).plain, ((find_is of_counts).plain, tt))))) in
    ((find_is of_wipes).plain, ((find_is of_operators).plain, ((find_is of_pools).plain, ((find_is of_members).plain, ((find_is of_images).plain, ((find_is of_lives).plain, ((find_is of_machines).plain, later)))))))

-- ---- what a write sets off

-- no table follows a key that changes
pub never_follows : NeverFollows hall_schema
never_follows = (tt, (tt, (tt, ((refl, (refl, tt)), (tt, ((refl, tt), ((refl, (refl, (refl, tt))), ((refl, tt), ((refl, tt), ((refl, tt), ((refl, tt), (tt, ((refl, tt), tt)))))))))))))

-- the rows of a table other than `machines` go alone
pub goes_alone : (t : TableName) → t ≢ of_machines → (olds : List Row) → works hall_schema Enforced 0 (described t).table.tree olds [] ≡ []
unfolding understood everything
goes_alone of_machines apart olds = absurd (apart refl)
goes_alone t apart olds = refl

-- ---- a machine goes with its children

column_is_key : parent_key hall_schema.tables (belongs_to_machine 2) ≡ Some (11, 0 ∷ [], plain)
unfolding understood everything
column_is_key = refl

rowid_is_key : parent_key hall_schema.tables (belongs_to_machine 0) ≡ Some (11, 0 ∷ [], plain)
unfolding understood everything
rowid_is_key = refl

-- where no interface, boot, order or kind of erasing points to the rows that go, nothing else is to be done
pub machines_go_alone : (db : Trees) (olds : List Row) → IsIdle db (cascade interfaces_table (belongs_to_machine 2) (0 ∷ []) plain olds)
    → IsIdle db (cascade boots_table (belongs_to_machine 2) (0 ∷ []) plain olds) → IsIdle db (cascade orders_table (belongs_to_machine 2) (0 ∷ []) plain olds)
    → IsIdle db (cascade wipes_table (belongs_to_machine 0) (0 ∷ []) plain olds) → AllByRecursion (IsIdle db) (works hall_schema Enforced 0 11 olds [])
machines_go_alone db olds interfaces boots orders wipes =
    let child = child_is_idle hall_schema 11 (0 ∷ []) plain (belongs_to_machine 2) column_is_key refl db olds in
    let own = child_is_idle hall_schema 11 (0 ∷ []) plain (belongs_to_machine 0) rowid_is_key refl db olds wipes_table wipes in
    all-flat_map (IsIdle db) (λ child. filter_map (work_for hall_schema Enforced 0 11 olds [] child) child.references) hall_schema.tables
    (tt, (tt, (tt, (tt, (tt, (tt, (tt, (child interfaces_table interfaces, (child boots_table boots, (child orders_table orders, (tt, (tt, (own, tt)))))))))))))
