use Rattle.std.proofs.Common.{◌≡◌, vec_len, replicate, None}
use Rattle.serve_sockets.proofs.table.Table.new.Given as goal

-- so many slots are free
abbrev pub invariant-loop : goal.invariant-loop
invariant-loop g l = record {
  free : l.slots.items ≡ replicate l.counter None;
  size : vec_len l.slots ≡ l.counter;
}
