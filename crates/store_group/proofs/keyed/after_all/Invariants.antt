use Rattle.std.proofs.Common.{◌≡◌, take}
use Rattle.hall_types.specs.Hall.{Hall, applied}
use Rattle.store_group.proofs.keyed.after_all.Given as goal

-- the row after the writes so far
abbrev pub invariant-writes : goal.invariant-writes
invariant-writes g l = (h : Hall) → l.fn.row ≡ g.K.Keyed.row_in l.key h → l.last ≡ g.K.Keyed.row_in l.key (applied (take l.write-index l.writes) h)
