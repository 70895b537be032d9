use Rattle.std.proofs.Common.{◌≡◌, ◌+◌, ◌-◌, ◌++◌, vec_len}
use Rattle.hallctl_words.specs.Spans.{numbers_from}
use Rattle.hallctl_words.proofs.spans.push_from.Given as goal

abbrev pub invariant-loop-i : goal.invariant-loop-i
invariant-loop-i l = record {
  items : l.machines.items ++ numbers_from (l.first + l.i) (l.count - l.i) ≡ l.initial.machines.items ++ numbers_from l.first l.count;
  len : vec_len l.machines ≡ vec_len l.initial.machines + l.i;
}
