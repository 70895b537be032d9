use Rattle.std.proofs.Common.{◌≡◌, ◌<◌, ◌≤◌, ℕ, length, true}
use Rattle.serve_sockets.specs.{Lists.wants_at, Table.number_at}
use Rattle.serve_sockets.proofs.lists.first_from.Given as goal

-- of the slots that were passed, none that is wanted was accepted before the one that was found, which is
abbrev pub invariant-loop-slot : goal.invariant-loop-slot
invariant-loop-slot g l = record {
  within : l.first < length l.slots;
  wants : wants_at l.wanted l.slots l.first ≡ true;
  first : (k : ℕ) → k < l.slot → wants_at l.wanted l.slots k ≡ true → number_at l.slots l.first ≤ number_at l.slots k;
}
