-- The thirteen tables and three indexes of a hall, second schema, each described once: its columns for SQLite, the columns of its rows after the rowid, what its statements say, and its place among all. The column of an INTEGER PRIMARY KEY is stored as NULL.
use Rattle.sql_schema.specs.{Prelude.{option_to_list, Schema, Table, Index, op2, col, Compare, Eq, Binary, automatic, Null, Int, Text, Blob, lit, Query, Row, Trees, Rows, numbers, texts, pairs, at, pair, arch_number, role_number, purpose_number, stage_number, order_kind_number, order_stage_number, erase_number, status_number, BootImage, Operator, Pool, Member, Live, Machine, Interface, Boot, Order, Receipt, Numbers}, Columns.{number, truth_number, or_null, joined, HasWords}, HallRows.{Counts, HallRows, Wipe}, Rows.Entry, TableOf.{HallTable, IsNamed, TableOf, named, numbered, of_table, pair_values, parameters_from}, Queries.{cell, from_one, rising}, Tables.{required, optional, refers_to, belongs_to_machine, by_number, by_name, on_machine}, declared.creating.TheConstants.{CREATE_BOOTS, CREATE_COUNTS, CREATE_HALL, CREATE_IMAGES, CREATE_INTERFACES, CREATE_LIVES, CREATE_MACHINES, CREATE_MEMBERS, CREATE_OPERATORS, CREATE_ORDERS, CREATE_POOLS, CREATE_RECEIPTS, CREATE_WIPES, ADD_BOOT, ADD_COUNT, ADD_IMAGE, ADD_INTERFACE, ADD_LIVE, ADD_MACHINE, ADD_MEMBER, ADD_OPERATOR, ADD_ORDER, ADD_POOL, ADD_RECEIPT, ADD_WIPE, FIND_BOOT, FIND_IMAGE, FIND_INTERFACE, FIND_LIVE, FIND_MACHINE, FIND_MEMBER, FIND_NUMBERS, FIND_OPERATOR, FIND_ORDER, FIND_POOL, FIND_RECEIPT, FIND_WIPE, FIRST_NUMBERS, LIST_COUNTS}}
use Rattle.std.specs.Prelude.{◌≡◌, ◌==◌, ℕ, pos, zero, suc, List, [], ◌∷◌, map, drop, take, Some, cond, codes}
use Rattle.sqlite.specs.Kind.TheVariants as kind

-- ---- the last numbers

abbrev pub hall_table : Table
hall_table = by_number (codes "hall") 0
    (optional kind.Integer (codes "one") ∷ required kind.Integer (codes "schema") ∷ required kind.Integer (codes "machine") ∷ required kind.Integer (codes "boot") ∷ required kind.Integer (codes "orders") ∷ [])
    [] (op2 (Compare Eq Binary) (col 1 0) (lit (Int (pos 1))) ∷ []) []

-- the one row of the last numbers, under the key 1, with the number of the schema
abbrev pub numbers_row : Numbers → Row
numbers_row last = number 1 ∷ Null ∷ number 2 ∷ number last.machine ∷ number last.boot ∷ number last.order ∷ []

-- ---- operators

abbrev pub operators_table : Table
operators_table = by_name (codes "operators") 1
    (required kind.Text (codes "name") ∷ required kind.Integer (codes "role") ∷ required kind.Blob (codes "digest") ∷ required kind.Integer (codes "enabled") ∷ [])
    (1 ∷ []) ((3 ∷ []) ∷ []) []

abbrev pub operator_columns : Operator → Row
operator_columns o = Text o.name ∷ number (role_number o.role) ∷ Blob o.digest ∷ number (truth_number o.enabled) ∷ []

abbrev pub operators : TableOf texts Operator (Entry Operator)
operators = named operators_table 1 (λ o. o.name) (λ name. Text name ∷ []) 1 operator_columns 4 (λ c. c.hall.operators) (λ c rows. record c { hall = record c.hall { operators = rows } })

-- ---- pools

abbrev pub pools_table : Table
pools_table = by_name (codes "pools") 4
    (required kind.Text (codes "name") ∷ [])
    (1 ∷ []) [] []

abbrev pub pool_columns : Pool → Row
pool_columns p = Text p.name ∷ []

abbrev pub pools : TableOf texts Pool (Entry Pool)
pools = named pools_table 2 (λ p. p.name) (λ name. Text name ∷ []) 1 pool_columns 1 (λ c. c.hall.pools) (λ c rows. record c { hall = record c.hall { pools = rows } })

-- ---- members

abbrev pub members_table : Table
members_table = by_name (codes "members") 6
    (required kind.Text (codes "pool") ∷ required kind.Text (codes "operator") ∷ [])
    (1 ∷ 2 ∷ []) [] (refers_to (codes "pools") 1 ∷ refers_to (codes "operators") 2 ∷ [])

abbrev pub member_columns : Member → Row
member_columns m = Text m.pool ∷ Text m.operator ∷ []

abbrev pub members : TableOf pairs Member (Entry Member)
members = named members_table 3 (λ m. pair m.pool m.operator) (pair_values Text) 2 member_columns 2 (λ c. c.hall.members) (λ c rows. record c { hall = record c.hall { members = rows } })

-- ---- images

abbrev pub images_table : Table
images_table = by_name (codes "images") 8
    (required kind.Text (codes "name") ∷ required kind.Integer (codes "arch") ∷ required kind.Text (codes "kernel") ∷ required kind.Text (codes "initrd") ∷ required kind.Text (codes "args") ∷ [])
    (1 ∷ []) [] []

abbrev pub image_columns : BootImage → Row
image_columns i = Text i.name ∷ number (arch_number i.arch) ∷ Text i.kernel ∷ Text i.initrd ∷ Text (joined i.args) ∷ []

abbrev pub images : TableOf texts BootImage (Entry BootImage)
images = named images_table 4 (λ i. i.name) (λ name. Text name ∷ []) 1 image_columns 5 (λ c. c.hall.images) (λ c rows. record c { hall = record c.hall { images = rows } })

-- The table of images. It stores the arguments of an image as one text, which gives them back.
pub record AreImages (stored : List Row) (rows : Rows texts BootImage) : Type 0 where
  pub named : IsNamed (λ (i : BootImage). i.name) image_columns stored rows
  pub words : (name : List ℕ) (i : BootImage) → at rows name ≡ Some i → HasWords i

-- ---- lives

abbrev pub lives_table : Table
lives_table = by_number (codes "lives") 10
    (optional kind.Integer (codes "arch") ∷ required kind.Text (codes "image") ∷ [])
    [] [] (refers_to (codes "images") 2 ∷ [])

abbrev pub live_columns : Live → Row
live_columns l = Null ∷ Text l.image ∷ []

abbrev pub live_values : Live → Row
live_values l = number (arch_number l.arch) ∷ drop 1 (live_columns l)

abbrev pub lives : TableOf numbers Live Live
lives = numbered lives_table 5 (λ l. arch_number l.arch) live_columns 1 (λ c. c.hall.lives) (λ c rows. record c { hall = record c.hall { lives = rows } })

-- ---- machines

abbrev pub machines_table : Table
machines_table = by_number (codes "machines") 11
    (optional kind.Integer (codes "id") ∷ required kind.Integer (codes "arch") ∷ optional kind.Blob (codes "uuid") ∷ required kind.Text (codes "pool") ∷ required kind.Integer (codes "status") ∷ optional kind.Text (codes "owner") ∷ optional kind.Text (codes "image") ∷ required kind.Integer (codes "tests") ∷ optional kind.Integer (codes "back") ∷ required kind.Integer (codes "locked") ∷ required kind.Integer (codes "version") ∷ optional kind.Integer (codes "deadline") ∷ optional kind.Integer (codes "boot") ∷ required kind.Integer (codes "boots") ∷ optional kind.Integer (codes "waiting") ∷ [])
    ((3 ∷ []) ∷ []) [] (refers_to (codes "pools") 4 ∷ refers_to (codes "operators") 6 ∷ refers_to (codes "images") 7 ∷ [])

-- how the disks of a machine are erased has a table of its own
abbrev pub machine_columns : Machine → Row
machine_columns m =
    Null ∷ number (arch_number m.arch) ∷ or_null Blob m.uuid ∷ Text m.pool ∷ number (status_number m.status) ∷ or_null Text m.owner ∷ or_null Text m.image
    ∷ number (truth_number m.tests) ∷ or_null (λ s. number (status_number s)) m.back ∷ number (truth_number m.locked) ∷ number m.version ∷ or_null number m.deadline
    ∷ or_null number m.boot ∷ number m.boots ∷ or_null number m.waiting ∷ []

-- as a query shows the row, and as it is given
abbrev pub machine_values : Machine → Row
machine_values m = number m.id ∷ drop 1 (machine_columns m)

abbrev pub machines : TableOf numbers Machine Machine
machines = numbered machines_table 6 (λ m. m.id) machine_columns 14 (λ c. c.hall.machines) (λ c rows. record c { hall = record c.hall { machines = rows } })

-- ---- interfaces

abbrev pub interfaces_table : Table
interfaces_table = by_name (codes "interfaces") 13
    (required kind.Blob (codes "mac") ∷ required kind.Integer (codes "machine") ∷ [])
    (1 ∷ []) [] (belongs_to_machine 2 ∷ [])

abbrev pub interfaces_index : Index
interfaces_index = on_machine (codes "interfaces_machine") 21 13

abbrev pub interface_columns : Interface → Row
interface_columns i = Blob i.mac ∷ number i.machine ∷ []

abbrev pub interfaces : TableOf texts Interface (Entry Interface)
interfaces = named interfaces_table 7 (λ i. i.mac) (λ mac. Blob mac ∷ []) 1 interface_columns 2 (λ c. c.hall.interfaces) (λ c rows. record c { hall = record c.hall { interfaces = rows } })

-- ---- boots

abbrev pub boots_table : Table
boots_table = by_number (codes "boots") 15
    (optional kind.Integer (codes "number") ∷ required kind.Integer (codes "machine") ∷ required kind.Integer (codes "purpose") ∷ required kind.Blob (codes "token") ∷ required kind.Integer (codes "stage") ∷ [])
    [] [] (belongs_to_machine 2 ∷ [])

abbrev pub boots_index : Index
boots_index = on_machine (codes "boots_machine") 22 15

abbrev pub boot_columns : Boot → Row
boot_columns b = Null ∷ number b.machine ∷ number (purpose_number b.purpose) ∷ Blob b.token ∷ number (stage_number b.stage) ∷ []

abbrev pub boot_values : Boot → Row
boot_values b = number b.number ∷ drop 1 (boot_columns b)

abbrev pub boots : TableOf numbers Boot Boot
boots = numbered boots_table 8 (λ b. b.number) boot_columns 4 (λ c. c.hall.boots) (λ c rows. record c { hall = record c.hall { boots = rows } })

-- ---- orders

abbrev pub orders_table : Table
orders_table = by_number (codes "orders") 16
    (optional kind.Integer (codes "number") ∷ required kind.Integer (codes "machine") ∷ required kind.Integer (codes "kind") ∷ required kind.Integer (codes "stage") ∷ [])
    [] [] (belongs_to_machine 2 ∷ [])

abbrev pub orders_index : Index
orders_index = on_machine (codes "orders_machine") 23 16

abbrev pub order_columns : Order → Row
order_columns o = Null ∷ number o.machine ∷ number (order_kind_number o.kind) ∷ number (order_stage_number o.stage) ∷ []

abbrev pub order_values : Order → Row
order_values o = number o.number ∷ drop 1 (order_columns o)

abbrev pub orders : TableOf numbers Order Order
orders = numbered orders_table 9 (λ o. o.number) order_columns 3 (λ c. c.hall.orders) (λ c rows. record c { hall = record c.hall { orders = rows } })

-- ---- receipts

abbrev pub receipts_table : Table
receipts_table = by_name (codes "receipts") 17
    (required kind.Text (codes "operator") ∷ required kind.Blob (codes "request") ∷ required kind.Text (codes "command") ∷ required kind.Integer (codes "status") ∷ required kind.Text (codes "body") ∷ [])
    (1 ∷ 2 ∷ []) [] (refers_to (codes "operators") 1 ∷ [])

abbrev pub receipt_columns : Receipt → Row
receipt_columns r = Text r.operator ∷ Blob r.key ∷ Text r.command ∷ number r.status ∷ Text r.body ∷ []

abbrev pub receipts : TableOf pairs Receipt (Entry Receipt)
receipts = named receipts_table 10 (λ r. pair r.operator r.key) (pair_values Blob) 2 receipt_columns 5 (λ c. c.hall.receipts) (λ c rows. record c { hall = record c.hall { receipts = rows } })

-- ---- counts

abbrev pub counts_table : Table
counts_table = by_name (codes "counts") 19
    (required kind.Text (codes "pool") ∷ required kind.Integer (codes "status") ∷ required kind.Integer (codes "machines") ∷ [])
    (1 ∷ 2 ∷ []) [] []

-- how many machines a pool has in a status
pub record CountRow : Type 0 where
  pub pool : List ℕ
  pub status : ℕ
  pub machines : ℕ

abbrev pub count_columns : CountRow → Row
count_columns c = Text c.pool ∷ number c.status ∷ number c.machines ∷ []

-- the key of a count: its pool, and its status's number as a text of its own
abbrev pub count_key : List ℕ → ℕ → List (List ℕ)
count_key pool status = pair pool (status ∷ [])

-- a number above 0 has one row, and 0 has none
abbrev pub in_rows : ℕ → List ℕ
in_rows zero = []
in_rows (suc n) = suc n ∷ []

-- The table of counts: each pool and status has its row where its number is above 0.
pub record AreCounts (stored : List Row) (all : Counts) : Type 0 where
  pub rows : Rows pairs CountRow
  pub table : IsNamed (λ (c : CountRow). count_key c.pool c.status) count_columns stored rows
  pub counted : (pool : List ℕ) (status : ℕ) → map (λ (c : CountRow). c.machines) (option_to_list (at rows (count_key pool status))) ≡ in_rows (all pool status)

-- ---- kinds of erasing

abbrev pub wipes_table : Table
wipes_table = by_number (codes "wipes") 24
    (optional kind.Integer (codes "machine") ∷ required kind.Integer (codes "erase") ∷ [])
    [] [] (belongs_to_machine 0 ∷ [])

abbrev pub wipe_columns : Wipe → Row
wipe_columns w = Null ∷ number (erase_number w.erase) ∷ []

abbrev pub wipes : TableOf numbers Wipe Wipe
wipes = numbered wipes_table 12 (λ w. w.machine) wipe_columns 1 (λ c. c.wipes) (λ c rows. record c { wipes = rows })

-- ---- all of them

pub data TableName : Type 0 where
  of_last : TableName
  of_operators : TableName
  of_pools : TableName
  of_members : TableName
  of_images : TableName
  of_lives : TableName
  of_machines : TableName
  of_interfaces : TableName
  of_boots : TableName
  of_orders : TableName
  of_receipts : TableName
  of_counts : TableName
  of_wipes : TableName

-- the query of all last numbers, and that of all counts
abbrev pub find_numbers_query : Query
find_numbers_query = from_one 0 [] (cell 2 ∷ cell 3 ∷ cell 4 ∷ cell 5 ∷ []) []

abbrev pub list_counts_query : Query
list_counts_query = from_one 19 [] (cell 1 ∷ cell 2 ∷ cell 3 ∷ []) (rising 1 ∷ rising 2 ∷ [])

-- all tables of a hall
abbrev pub described : TableName → HallTable
described of_last = record {
  table = hall_table;
  place = 0;
  Held = Numbers;
  held = λ c. c.hall.last;
  with_held = λ c x. record c { hall = record c.hall { last = x } };
  stores = λ rows x. rows ≡ numbers_row x ∷ [];
  create = CREATE_HALL.now;
  find = FIND_NUMBERS.now;
  query = find_numbers_query;
  add = FIRST_NUMBERS.now;
  given = lit (Int (pos 1)) ∷ lit Null ∷ lit (Int (pos 2)) ∷ lit (Int (pos 0)) ∷ lit (Int (pos 0)) ∷ lit (Int (pos 0)) ∷ [];
}
described of_operators = of_table operators CREATE_OPERATORS.now FIND_OPERATOR.now ADD_OPERATOR.now
described of_pools = of_table pools CREATE_POOLS.now FIND_POOL.now ADD_POOL.now
described of_members = of_table members CREATE_MEMBERS.now FIND_MEMBER.now ADD_MEMBER.now
described of_images = record (of_table images CREATE_IMAGES.now FIND_IMAGE.now ADD_IMAGE.now) { stores = AreImages }
described of_lives = of_table lives CREATE_LIVES.now FIND_LIVE.now ADD_LIVE.now
described of_machines = of_table machines CREATE_MACHINES.now FIND_MACHINE.now ADD_MACHINE.now
described of_interfaces = of_table interfaces CREATE_INTERFACES.now FIND_INTERFACE.now ADD_INTERFACE.now
described of_boots = of_table boots CREATE_BOOTS.now FIND_BOOT.now ADD_BOOT.now
described of_orders = of_table orders CREATE_ORDERS.now FIND_ORDER.now ADD_ORDER.now
described of_receipts = of_table receipts CREATE_RECEIPTS.now FIND_RECEIPT.now ADD_RECEIPT.now
described of_counts = record {
  table = counts_table;
  place = 11;
  Held = Counts;
  held = λ c. c.counts;
  with_held = λ c x. record c { counts = x };
  stores = AreCounts;
  create = CREATE_COUNTS.now;
  find = LIST_COUNTS.now;
  query = list_counts_query;
  add = ADD_COUNT.now;
  given = lit Null ∷ parameters_from 0 3;
}
described of_wipes = of_table wipes CREATE_WIPES.now FIND_WIPE.now ADD_WIPE.now

-- ---- the schema

-- all tables, in the order in which they are made
abbrev pub all_tables : List Table
all_tables = hall_table ∷ operators_table ∷ pools_table ∷ members_table ∷ images_table ∷ lives_table ∷ machines_table ∷ interfaces_table ∷ boots_table ∷ orders_table ∷ receipts_table ∷ counts_table ∷ wipes_table ∷ []

-- all indexes, those of UNIQUE keys first, in the order in which they are made
abbrev pub all_indexes : List Index
all_indexes = automatic operators_table 0 (1 ∷ []) 2 ∷ automatic operators_table 1 (3 ∷ []) 3 ∷ automatic pools_table 0 (1 ∷ []) 5 ∷ automatic members_table 0 (1 ∷ 2 ∷ []) 7 ∷ automatic images_table 0 (1 ∷ []) 9 ∷ automatic machines_table 0 (3 ∷ []) 12 ∷ automatic interfaces_table 0 (1 ∷ []) 14 ∷ automatic receipts_table 0 (1 ∷ 2 ∷ []) 18 ∷ automatic counts_table 0 (1 ∷ 2 ∷ []) 20
    ∷ interfaces_index ∷ boots_index ∷ orders_index ∷ []

-- the schema while it is made, with so many tables and indexes
abbrev pub stage : ℕ → ℕ → Schema
stage tables indexes = record { tables = take tables all_tables; indexes = take indexes all_indexes; views = [] }

-- nothing is made yet
abbrev pub no_schema : Schema
no_schema = record { tables = []; indexes = []; views = [] }

-- all is made
abbrev pub hall_schema : Schema
hall_schema = record { tables = all_tables; indexes = all_indexes; views = [] }

-- ---- what a table stores

-- the trees, with these rows in the place of those of one of them
abbrev pub with_tree : ℕ → List Row → Trees → Trees
with_tree tree rows db n = cond (n == tree) rows (db n)

-- where each table stores what it is to hold, and then one of them stores something else, each stores what it is to hold with that
pub each_stores : (t u : TableName) (db : Trees) (c : HallRows) → ((v : TableName) → (described v).stores (db (described v).table.tree) ((described v).held c)) → (stored : List Row) (x : (described t).Held) → (described t).stores stored x
    → (described u).stores (with_tree (described t).table.tree stored db (described u).table.tree) ((described u).held ((described t).with_held c x))
each_stores of_last of_last db c each stored x holds = holds
each_stores of_operators of_operators db c each stored x holds = holds
each_stores of_pools of_pools db c each stored x holds = holds
each_stores of_members of_members db c each stored x holds = holds
each_stores of_images of_images db c each stored x holds = holds
each_stores of_lives of_lives db c each stored x holds = holds
each_stores of_machines of_machines db c each stored x holds = holds
each_stores of_interfaces of_interfaces db c each stored x holds = holds
each_stores of_boots of_boots db c each stored x holds = holds
each_stores of_orders of_orders db c each stored x holds = holds
each_stores of_receipts of_receipts db c each stored x holds = holds
each_stores of_counts of_counts db c each stored x holds = holds
each_stores of_wipes of_wipes db c each stored x holds = holds
each_stores t u db c each stored x holds = each u
