use Rattle.std.proofs.Common.{◌≡◌, map, take}
use Rattle.sql_schema.proofs.reading.all_items.Given as goal

-- the rows so far are those of the items so far
abbrev pub invariant-rows : goal.invariant-rows
invariant-rows g l = map g.T.Table.values l.items.items ≡ take l.row-index l.rows.items
