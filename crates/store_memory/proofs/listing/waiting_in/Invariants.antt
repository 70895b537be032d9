use Rattle.std.proofs.Common.{◌≡◌, ◌++◌, filter, filter_map}
use Rattle.store_memory.specs.{Prelude.waits, Table.rows_of}
use Rattle.store_memory.proofs.listing.waiting_in.Given as goal

-- the orders so far, and those that wait among the rows that are left, are all that wait
abbrev pub invariant-orders : goal.invariant-orders
invariant-orders l = l.waiting.items ++ filter (λ o. waits o.stage) (filter_map (λ row. row) l.row-iterator) ≡ filter (λ o. waits o.stage) (rows_of l.orders)
