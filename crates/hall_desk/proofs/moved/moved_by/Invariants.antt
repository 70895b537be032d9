use Rattle.std.proofs.Common.{◌≡◌, drop}
use Rattle.hall_desk.specs.Moved.{moved_by}
use Rattle.hall_desk.proofs.moved.moved_by.Given as goal

-- the rows so far move no machine
abbrev pub invariant-loop-row : goal.invariant-loop-row
invariant-loop-row l = moved_by l.seen (drop l.row-index l.row-items) ≡ moved_by l.seen l.row-items
