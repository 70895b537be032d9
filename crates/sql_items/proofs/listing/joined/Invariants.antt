use Rattle.std.proofs.Common.{◌≡◌, ◌++◌, drop}
use Rattle.sql_items.specs.Joining.{joined}
use Rattle.sql_items.proofs.listing.joined.Given as goal

-- the machines so far, and what is left of both lists joined, are all of them joined
abbrev pub invariant-rows : goal.invariant-rows
invariant-rows l = l.all.items ++ joined l.erasings l.next (drop l.row-index l.rows) ≡ joined l.erasings 0 l.rows
