-- What the statements of one machine's write make of the rows.
use Rattle.sql_schema.specs.{Words.{Hall, put, status_number, Machine, HallRows, boots, interfaces, machines, orders}, TableStatements.{without_item, without_where}}
use Rattle.std.specs.Prelude.{◌+◌, ◌-◌, ℕ, None, ◌==◌}
use Rattle.sql_items.specs.{Counts.with_count, Wipes.with_wipe}
use Rattle.hall_sql.specs.declared.groups.Group.{Group}

-- where a machine is counted
abbrev pub group_of : Machine → Group
group_of m = record { pool = m.pool; status = m.status }

-- with one machine more in a group
abbrev pub counted_in : HallRows → Group → HallRows
counted_in c group = with_count c group.pool (status_number group.status) (c.counts group.pool (status_number group.status) + 1)

-- with one machine fewer in a group
abbrev pub counted_out : HallRows → Group → HallRows
counted_out c group = with_count c group.pool (status_number group.status) (c.counts group.pool (status_number group.status) - 1)

-- the hall with this row of a machine
abbrev pub with_row : Hall → Machine → Hall
with_row h m = record h { machines = put m.id m h.machines }

-- the rows where no row points to the machine with this number
abbrev pub childless : HallRows → ℕ → HallRows
childless c id = with_wipe (without_where orders (without_where boots (without_where interfaces c (λ i. i.machine == id)) (λ b. b.machine == id)) (λ o. o.machine == id)) id None

-- the rows without the machine with this number, while it is still counted
abbrev pub without_rows : HallRows → ℕ → HallRows
without_rows c id = without_item machines (childless c id) id
