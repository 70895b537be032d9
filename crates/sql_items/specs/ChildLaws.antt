-- Laws of the tables of interfaces, boots and orders: what their statements ask and write.
use Rattle.sqlite.specs.Listing.{understood}
use Rattle.sqlite_tied.specs.Compute.{everything}
use Rattle.sql_schema.specs.{Words.{interfaces, boots, orders, parameters_from, HallRows, equal_keys, equal_numbers, rises, sets, key-same, same_text, lit, op2, Null, Blob, Int, of_boots, of_interfaces, of_orders, option_to_list, State, value_cmp-Blob, Hall, at, listed, numbers, interfaces_of, waiting, waits, Interface, goes_alone, number, interface_columns, boot_columns, boot_values, order_columns, order_values, and_true, equals, IsBefore, cell, Boot, Binary, Compare, Eq, OrderStage, Order, Values, parameter, IsQueryText, IsCommandText, IsReturningText, hall_schema, add_is, find_is}, TableStatements.{IsTable, shows_query, set_command, remove_command, with_item, without_item, without_where}, TableStatementLaws.{finds, lists, adds, puts, removes, removes_where}, Asking.Asks, Writing.{Makes, Puts}, AskingLaws.shows_all, declared.creating.TheConstants.{FIND_INTERFACE, FIND_BOOT, FIND_ORDER, ADD_BOOT, ADD_INTERFACE, ADD_ORDER}}
use Rattle.std.{proofs.Common.{◌≡◌, ◌==◌, ℕ, pos, List, [], ◌∷◌, true, None, Less, refl, sym, ap, ◌∙◌, drop, int_eq, codes}, specs.Prelude.◌==◌}
use Rattle.hall_types.specs.{Rows.texts, Kinds.order_stage_number}
use Rattle.sql_items.specs.declared.{boots.TheConstants.{REMOVE_BOOTS, SET_BOOT}, interfaces.TheConstants.{FIND_INTERFACES, LIST_INTERFACES, REMOVE_INTERFACE, REMOVE_INTERFACES}, orders.TheConstants.{LIST_WAITING_ORDERS, REMOVE_ORDERS, SET_ORDER}}
use Rattle.sql_schema.specs.ValueLaws as value
use Rattle.hall_types.specs.declared.kinds.OrderStage.TheVariants as stage

-- ---- interfaces

are_interfaces : IsTable interfaces
are_interfaces = record {
  there = refl;
  spelt = λ db c tables. tables.each of_interfaces;
  sets = sets of_interfaces;
  same = λ c. refl;
  seen = λ db. refl;
  tests = λ mac others e. and_true _ ∙ value.same_blob e.item.mac mac ∙ sym (same_text e.item.mac mac);
  shows = λ params i. refl;
  stores = λ i. refl;
  becomes = λ stored i. rw (value.cast-Null, value.cast-Int) refl;
}

-- by address
by_mac : (one other : Interface) → texts.cmp one.mac other.mac ≡ Less → IsBefore (shows_query interfaces [] interfaces.by_key) (Blob one.mac ∷ [], interface_columns one) (Blob other.mac ∷ [], interface_columns other)
unfolding texts
by_mac one other low = rw (value_cmp-Blob one.mac other.mac, low) refl

pub finds_interface : (mac : List ℕ) → Asks interface_columns FIND_INTERFACE.now (Blob mac ∷ []) (λ h. option_to_list (at h.interfaces mac))
finds_interface = finds interfaces are_interfaces (λ h. h.interfaces) (λ c. refl) FIND_INTERFACE.now (find_is of_interfaces)

-- the interfaces of a machine
pub finds_interfaces : (id : ℕ) → Asks interface_columns FIND_INTERFACES.now (number id ∷ []) (λ h. interfaces_of h id)
unfolding understood everything
finds_interfaces id =
    lists interfaces are_interfaces (λ h. h.interfaces) (λ c. refl) FIND_INTERFACES.now (equals 2 0 ∷ [])
    (record { names = _; is = refl; plain = (refl, refl); unlisted = refl }) (number id ∷ []) (λ i. i.machine == id)
    (λ e. equal_numbers e.item.machine id) (λ i. Blob i.mac ∷ []) (λ e. refl) by_mac

-- all interfaces
pub lists_interfaces : Asks interface_columns LIST_INTERFACES.now [] (λ h. listed h.interfaces)
unfolding understood everything
lists_interfaces =
    shows_all (lists interfaces are_interfaces (λ h. h.interfaces) (λ c. refl) LIST_INTERFACES.now []
    (record { names = _; is = refl; plain = (refl, refl); unlisted = refl }) [] (λ _. true) (λ e. refl) (λ i. Blob i.mac ∷ []) (λ e. refl) by_mac)

pub adds_interface : {C : Type 0} (state_of : C → State) (i : Interface) (before : Hall) (c : HallRows) → at c.hall.interfaces i.mac ≡ None → Makes state_of ADD_INTERFACE.now (interface_columns i) before c (with_item interfaces c i)
adds_interface state_of = adds interfaces are_interfaces state_of ADD_INTERFACE.now (add_is of_interfaces)

-- the interface with an address goes
pub removes_interface : {C : Type 0} (state_of : C → State) (mac : List ℕ) (before : Hall) (c : HallRows) → Makes state_of REMOVE_INTERFACE.now (Blob mac ∷ []) before c (without_item interfaces c mac)
unfolding understood everything
removes_interface state_of =
    removes interfaces are_interfaces state_of REMOVE_INTERFACE.now (record { is = refl; plain = (refl, refl) }) (goes_alone of_interfaces (λ is. cc))

-- the interfaces of a machine go
pub removes_interfaces : {C : Type 0} (state_of : C → State) (id : ℕ) (before : Hall) (c : HallRows) → Makes state_of REMOVE_INTERFACES.now (number id ∷ []) before c (without_where interfaces c (λ i. i.machine == id))
unfolding understood everything
removes_interfaces state_of id =
    removes_where interfaces are_interfaces state_of REMOVE_INTERFACES.now (equals 2 0 ∷ [])
    (record { is = refl; plain = (refl, refl) }) (goes_alone of_interfaces (λ is. cc)) (number id ∷ []) (λ i. i.machine == id)
    (λ e. equal_numbers e.item.machine id)

-- ---- boots

-- a boot, changed if it is there
set_boot_is : IsReturningText hall_schema SET_BOOT.now (set_command boots (cell 0 ∷ lit Null ∷ parameters_from 1 4)) (record { names = codes "number" ∷ []; row = Values (parameter 7 ∷ []) 1 })
unfolding understood everything
set_boot_is = record { is = refl; returning = refl; untimed = refl }

are_boots : IsTable boots
are_boots = record {
  there = refl;
  spelt = λ db c tables. tables.each of_boots;
  sets = sets of_boots;
  same = λ c. refl;
  seen = λ db. refl;
  tests = λ n others b. equal_keys b.number n;
  shows = λ params b. refl;
  stores = λ b. refl;
  becomes = λ stored b. rw (value.cast-Int, value.cast-Null, value.cast-Int, value.cast-Int, value.cast-Int) refl;
}

pub finds_boot : (n : ℕ) → Asks boot_values FIND_BOOT.now (number n ∷ []) (λ h. option_to_list (at h.boots n))
finds_boot = finds boots are_boots (λ h. h.boots) (λ c. refl) FIND_BOOT.now (find_is of_boots)

pub puts_boot : {C : Type 0} (state_of : C → State) (b : Boot) → Puts state_of SET_BOOT.now ADD_BOOT.now (boot_values b) (λ c. with_item boots c b)
puts_boot state_of b =
    puts boots are_boots state_of SET_BOOT.now ADD_BOOT.now (cell 0 ∷ lit Null ∷ parameters_from 1 4) _ _ 1 refl set_boot_is (add_is of_boots) b (drop 1 (boot_columns b)) refl
    (λ was. record b { number = was.number }) (λ was. refl) (λ was same. ap (λ n. record b { number = n }) (key-same numbers was.number b.number same))
    (λ was. rw (value.cast-Int, value.cast-Null, value.cast-Int, value.cast-Int, value.cast-Int) refl)

-- the boots of a machine go
pub removes_boots : {C : Type 0} (state_of : C → State) (id : ℕ) (before : Hall) (c : HallRows) → Makes state_of REMOVE_BOOTS.now (number id ∷ []) before c (without_where boots c (λ b. b.machine == id))
unfolding understood everything
removes_boots state_of id =
    removes_where boots are_boots state_of REMOVE_BOOTS.now (equals 2 0 ∷ [])
    (record { is = refl; plain = (refl, refl) }) (goes_alone of_boots (λ is. cc)) (number id ∷ []) (λ b. b.machine == id)
    (λ b. equal_numbers b.machine id)

-- ---- orders

-- an order, changed if it is there
set_order_is : IsReturningText hall_schema SET_ORDER.now (set_command orders (cell 0 ∷ lit Null ∷ parameters_from 1 3)) (record { names = codes "number" ∷ []; row = Values (parameter 6 ∷ []) 1 })
unfolding understood everything
set_order_is = record { is = refl; returning = refl; untimed = refl }

are_orders : IsTable orders
are_orders = record {
  there = refl;
  spelt = λ db c tables. tables.each of_orders;
  sets = sets of_orders;
  same = λ c. refl;
  seen = λ db. refl;
  tests = λ n others o. equal_keys o.number n;
  shows = λ params o. refl;
  stores = λ o. refl;
  becomes = λ stored o. rw (value.cast-Int, value.cast-Null, value.cast-Int, value.cast-Int, value.cast-Int) refl;
}

pub finds_order : (n : ℕ) → Asks order_values FIND_ORDER.now (number n ∷ []) (λ h. option_to_list (at h.orders n))
finds_order = finds orders are_orders (λ h. h.orders) (λ c. refl) FIND_ORDER.now (find_is of_orders)

waits_is : (s : OrderStage) → int_eq (pos (order_stage_number s)) (pos 0) ≡ waits s
unfolding order_stage_number
waits_is stage.Waiting = refl
waits_is other = refl

-- the orders that wait
pub lists_waiting : Asks order_values LIST_WAITING_ORDERS.now [] waiting
unfolding understood everything
lists_waiting =
    lists orders are_orders (λ h. h.orders) (λ c. refl) LIST_WAITING_ORDERS.now (op2 (Compare Eq Binary) (cell 4) (lit (Int (pos 0))) ∷ [])
    (record { names = _; is = refl; plain = (refl, refl); unlisted = refl }) [] (λ o. waits o.stage)
    (λ o. and_true _ ∙ value.same_number (pos (order_stage_number o.stage)) (pos 0) ∙ waits_is o.stage) (λ o. number o.number ∷ []) (λ o. refl) (λ one other low. rises one.number other.number low)

pub puts_order : {C : Type 0} (state_of : C → State) (o : Order) → Puts state_of SET_ORDER.now ADD_ORDER.now (order_values o) (λ c. with_item orders c o)
puts_order state_of o =
    puts orders are_orders state_of SET_ORDER.now ADD_ORDER.now (cell 0 ∷ lit Null ∷ parameters_from 1 3) _ _ 1 refl set_order_is (add_is of_orders) o (drop 1 (order_columns o)) refl
    (λ was. record o { number = was.number }) (λ was. refl) (λ was same. ap (λ n. record o { number = n }) (key-same numbers was.number o.number same))
    (λ was. rw (value.cast-Int, value.cast-Null, value.cast-Int, value.cast-Int, value.cast-Int) refl)

-- the orders of a machine go
pub removes_orders : {C : Type 0} (state_of : C → State) (id : ℕ) (before : Hall) (c : HallRows) → Makes state_of REMOVE_ORDERS.now (number id ∷ []) before c (without_where orders c (λ o. o.machine == id))
unfolding understood everything
removes_orders state_of id =
    removes_where orders are_orders state_of REMOVE_ORDERS.now (equals 2 0 ∷ [])
    (record { is = refl; plain = (refl, refl) }) (goes_alone of_orders (λ is. cc)) (number id ∷ []) (λ o. o.machine == id)
    (λ o. equal_numbers o.machine id)
