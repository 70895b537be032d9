use Rattle.std.proofs.Common.{◌≡◌, vec_len}
use Rattle.hallview.proofs.slots.free.Given as goal

-- there are as many free slots as were made
abbrev pub invariant-loop : goal.invariant-loop
invariant-loop l = vec_len l.free ≡ l.counter
