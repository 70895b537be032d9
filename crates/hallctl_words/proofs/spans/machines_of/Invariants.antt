use Rattle.std.proofs.Common.{◌≡◌, ◌≤◌, map, drop, vec_len}
use Rattle.hallctl_words.specs.Spans.{machines_after, machines_in, max_machines}
use Rattle.hallctl_words.proofs.spans.machines_of.Given as goal

abbrev pub invariant-loop-word : goal.invariant-loop-word
invariant-loop-word l = record {
  few : vec_len l.machines ≤ max_machines;
  same : machines_after l.machines.items (map (λ word. word.now) (drop l.word-index l.words)) ≡ machines_in (map (λ word. word.now) l.words);
}
