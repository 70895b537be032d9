-- Laws of the tables of operators, pools, members and receipts: what their statements ask and write.
use Rattle.sqlite.specs.Listing.{understood}
use Rattle.sqlite_tied.specs.Compute.{everything}
use Rattle.sql_schema.specs.{Words.{parameters_from, operators, pools, members, receipts, HallRows, pair_tests, sets, option_to_list, bytes_eq, Int, Text, Blob, State, slice_get-filter, value_cmp-Text, at, listed, same_text, key-same, Hall, pair, operator_with_digest, Operator, Pool, Member, Receipt, operator_columns, pool_columns, member_columns, receipt_columns, and_true, cell, equals, parameter, of_operators, of_pools, of_members, of_receipts, Values, IsQueryText, IsReturningText, hall_schema, add_is, find_is}, TableStatements.{IsTable, shows_query, set_command, with_item}, TableStatementLaws.{finds, lists, adds, puts}, Asking.Asks, Writing.{Makes, Puts}, declared.creating.TheConstants.{FIND_MEMBER, FIND_OPERATOR, FIND_POOL, FIND_RECEIPT, ADD_MEMBER, ADD_OPERATOR, ADD_POOL, ADD_RECEIPT}}
use Rattle.std.proofs.Common.{◌≡◌, ℕ, List, [], ◌∷◌, filter, drop, slice_get, None, refl, sym, ap, ◌∙◌, codes}
use Rattle.hall_types.specs.Rows.{texts}
use Rattle.sql_schema.specs.ValueLaws as value
use Rattle.sql_items.specs.declared.operators.TheConstants.{FIND_DIGEST, SET_OPERATOR}

-- ---- operators

-- the operators with a digest
find_digest_is : IsQueryText hall_schema FIND_DIGEST.now (shows_query operators (equals 3 0 ∷ []) operators.by_key)
unfolding understood everything
find_digest_is = record { names = _; is = refl; plain = (refl, refl); unlisted = refl }

-- an operator, changed if it is there
set_operator_is : IsReturningText hall_schema SET_OPERATOR.now (set_command operators (cell 0 ∷ cell 1 ∷ parameters_from 1 3)) (record { names = codes "name" ∷ []; row = Values (parameter 6 ∷ []) 1 })
unfolding understood everything
set_operator_is = record { is = refl; returning = refl; untimed = refl }

are_operators : IsTable operators
are_operators = record {
  there = refl;
  spelt = λ db c tables. tables.each of_operators;
  sets = sets of_operators;
  same = λ c. refl;
  seen = λ db. refl;
  tests = λ name others e. and_true _ ∙ value.same_text e.item.name name ∙ sym (same_text e.item.name name);
  shows = λ params o. refl;
  stores = λ o. refl;
  becomes = λ stored o. rw (value.cast-Null, value.cast-Int, value.cast-Int) refl;
}

pub finds_operator : (name : List ℕ) → Asks operator_columns FIND_OPERATOR.now (Text name ∷ []) (λ h. option_to_list (at h.operators name))
finds_operator = finds operators are_operators (λ h. h.operators) (λ c. refl) FIND_OPERATOR.now (find_is of_operators)

-- the operators with a digest, by name
abbrev pub with_digest : List ℕ → Hall → List Operator
with_digest digest h = filter (λ o. bytes_eq o.digest digest) (listed h.operators)

pub lists_digest : (digest : List ℕ) → Asks operator_columns FIND_DIGEST.now (Blob digest ∷ []) (with_digest digest)
unfolding texts
lists_digest digest =
    lists operators are_operators (λ h. h.operators) (λ c. refl) FIND_DIGEST.now (equals 3 0 ∷ []) find_digest_is (Blob digest ∷ []) (λ o. bytes_eq o.digest digest)
    (λ e. and_true _ ∙ value.same_blob e.item.digest digest) (λ o. Text o.name ∷ []) (λ e. refl) (λ one other low. rw (value_cmp-Text one.name other.name, low) refl)

pub first_with_digest : (digest : List ℕ) (h : Hall) → slice_get (with_digest digest h) 0 ≡ operator_with_digest h digest
first_with_digest digest h = slice_get-filter (λ o. bytes_eq o.digest digest) (listed h.operators)

pub puts_operator : {C : Type 0} (state_of : C → State) (o : Operator) → Puts state_of SET_OPERATOR.now ADD_OPERATOR.now (operator_columns o) (λ c. with_item operators c o)
puts_operator state_of o =
    puts operators are_operators state_of SET_OPERATOR.now ADD_OPERATOR.now (cell 0 ∷ cell 1 ∷ parameter 1 ∷ parameter 2 ∷ parameter 3 ∷ []) _ _ 1 refl set_operator_is (add_is of_operators) o
    (drop 1 (operator_columns o)) refl (λ e. record e { item = record o { name = e.item.name } }) (λ e. refl) (λ e same. ap (λ n. record o { name = n }) (key-same texts e.item.name o.name same))
    (λ e. rw (value.cast-Int, value.cast-Int, value.cast-Int) refl)

-- ---- pools

are_pools : IsTable pools
are_pools = record {
  there = refl;
  spelt = λ db c tables. tables.each of_pools;
  sets = sets of_pools;
  same = λ c. refl;
  seen = λ db. refl;
  tests = λ name others e. and_true _ ∙ value.same_text e.item.name name ∙ sym (same_text e.item.name name);
  shows = λ params p. refl;
  stores = λ p. refl;
  becomes = λ stored p. rw value.cast-Null refl;
}

pub finds_pool : (name : List ℕ) → Asks pool_columns FIND_POOL.now (Text name ∷ []) (λ h. option_to_list (at h.pools name))
finds_pool = finds pools are_pools (λ h. h.pools) (λ c. refl) FIND_POOL.now (find_is of_pools)

pub adds_pool : {C : Type 0} (state_of : C → State) (p : Pool) (before : Hall) (c : HallRows) → at c.hall.pools p.name ≡ None
    → Makes state_of ADD_POOL.now (pool_columns p) before c (with_item pools c p)
adds_pool state_of = adds pools are_pools state_of ADD_POOL.now (add_is of_pools)

-- ---- members

are_members : IsTable members
are_members = record {
  there = refl;
  spelt = λ db c tables. tables.each of_members;
  sets = sets of_members;
  same = λ c. refl;
  seen = λ db. refl;
  tests = λ key others e. pair_tests Text value.same_text (Int e.rowid) e.item.pool e.item.operator [] key others;
  shows = λ params m. refl;
  stores = λ m. refl;
  becomes = λ stored m. rw value.cast-Null refl;
}

pub finds_member : (pool operator : List ℕ) → Asks member_columns FIND_MEMBER.now (Text pool ∷ Text operator ∷ []) (λ h. option_to_list (at h.members (pair pool operator)))
finds_member pool operator = finds members are_members (λ h. h.members) (λ c. refl) FIND_MEMBER.now (find_is of_members) (pair pool operator)

pub adds_member : {C : Type 0} (state_of : C → State) (m : Member) (before : Hall) (c : HallRows) → at c.hall.members (pair m.pool m.operator) ≡ None
    → Makes state_of ADD_MEMBER.now (member_columns m) before c (with_item members c m)
adds_member state_of = adds members are_members state_of ADD_MEMBER.now (add_is of_members)

-- ---- receipts

are_receipts : IsTable receipts
are_receipts = record {
  there = refl;
  spelt = λ db c tables. tables.each of_receipts;
  sets = sets of_receipts;
  same = λ c. refl;
  seen = λ db. refl;
  tests = λ key others e. pair_tests Blob value.same_blob (Int e.rowid) e.item.operator e.item.key (drop 2 (receipt_columns e.item)) key others;
  shows = λ params r. refl;
  stores = λ r. refl;
  becomes = λ stored r. rw (value.cast-Null, value.cast-Int) refl;
}

pub finds_receipt : (operator key : List ℕ) → Asks receipt_columns FIND_RECEIPT.now (Text operator ∷ Blob key ∷ []) (λ h. option_to_list (at h.receipts (pair operator key)))
finds_receipt operator key = finds receipts are_receipts (λ h. h.receipts) (λ c. refl) FIND_RECEIPT.now (find_is of_receipts) (pair operator key)

pub adds_receipt : {C : Type 0} (state_of : C → State) (r : Receipt) (before : Hall) (c : HallRows) → at c.hall.receipts (pair r.operator r.key) ≡ None
    → Makes state_of ADD_RECEIPT.now (receipt_columns r) before c (with_item receipts c r)
adds_receipt state_of = adds receipts are_receipts state_of ADD_RECEIPT.now (add_is of_receipts)
