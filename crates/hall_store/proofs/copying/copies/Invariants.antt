use Rattle.std.proofs.Common.{◌≡◌, take}
use Rattle.hall_store.proofs.copying.copies.Given as goal

-- the copies are of the writes so far
abbrev pub invariant-copying : goal.invariant-copying
invariant-copying l = l.copies.items ≡ take l.write-index l.writes
