-- The rows of a machine that goes.
use Rattle.sql_schema.specs.Words.{of_boots, of_interfaces, of_orders, of_wipes, AreRowsOf, not-true, State, Keys, Rows, numbers, gone, rows_where, where_found, gone_found, other-key, same_number, StandUnder, Hall, without_machine, Boot, Interface, Order, Wipe, IsWithin, listed_at, Counts, HallRows}
use Rattle.std.proofs.Common.{◌==◌, not, ℕ, sym, ap, ◌∙◌}
use Rattle.sql_items.specs.{Machines.{NonePointTo, HasNoChild}, WipeLaws.wipes_gone}
use Rattle.hall_sql.{specs.{Machines.{childless, without_rows}, Within.IsWithinHall}, proofs.GroupLemmas.AreCounted}

-- none of the rows that are left points to the machine
none_where : {K X : Type 0} {keys : Keys K} (key_of : X → K) (machine_of : X → ℕ) (rows : Rows keys X) (id : ℕ) → StandUnder key_of (rows_where (λ x. not (machine_of x == id)) rows)
    → NonePointTo machine_of (rows_where (λ x. not (machine_of x == id)) rows) id
none_where {keys = keys} key_of machine_of rows id under x has =
    not-true (machine_of x == id) (where_found (λ x. not (machine_of x == id)) rows (key_of x) x (listed_at keys key_of (rows_where (λ x. not (machine_of x == id)) rows) under x has)).1

none_gone : (wipes : Rows numbers Wipe) (id : ℕ) → StandUnder (λ (w : Wipe). w.machine) (gone id wipes) → NonePointTo (λ (w : Wipe). w.machine) (gone id wipes) id
none_gone wipes id under w has =
    sym (same_number w.machine id) ∙ other-key numbers w.machine id (gone_found wipes id w.machine w (listed_at numbers (λ (x : Wipe). x.machine) (gone id wipes) under w has)).0

pub has_no_child : (s : State) (before : Hall) (c : HallRows) (id : ℕ) → IsWithin s before (childless c id) → HasNoChild (childless c id) id
has_no_child s before c id held =
    let tables = held.spelt.tables in
    record {
      interfaces = none_where (λ (i : Interface). i.mac) (λ (i : Interface). i.machine) c.hall.interfaces id (tables.each of_interfaces).under;
      boots = none_where (λ (b : Boot). b.number) (λ (b : Boot). b.machine) c.hall.boots id (tables.each of_boots).under;
      orders = none_where (λ (o : Order). o.number) (λ (o : Order). o.machine) c.hall.orders id (tables.each of_orders).under;
      wipes = none_gone c.wipes id (tables.each of_wipes).under;
    }

-- a machine's rows went, and it is counted no more
pub removes_whole : (s : State) (before h : Hall) (c : HallRows) → AreRowsOf h c → (id : ℕ) (all : Counts) → AreCounted all (gone id h.machines) → IsWithin s before (record (without_rows c id) { counts = all })
    → IsWithinHall s before (without_machine id h)
removes_whole s before h c agrees id all counts within = record {
  hall_rows = record (without_rows c id) { counts = all };
  within = within;
  agrees = record { hall = ap (without_machine id) agrees.hall; counts = counts; wipes = wipes_gone c.wipes h.machines agrees.wipes id };
}
