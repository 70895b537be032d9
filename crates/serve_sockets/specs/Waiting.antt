-- The requests that wait to be answered together.
use Rattle.std.specs.Prelude.{◌-◌, ℕ, List, Bool, ◌&&◌, ◌||◌, not, Option, None, Some, length, min, nat_le}
use Rattle.serve_sockets.specs.declared.waiting.Waiting.{Waiting}

-- the slots of their connections, in the order in which they were decided
abbrev pub waiting_of : Waiting → List ℕ
waiting_of waiting = waiting.slots.items

-- since when the first of them waits, in served time
abbrev pub since_of : Waiting → ℕ
since_of waiting = waiting.since

-- when some were handed over, if no turn began since
abbrev pub handed_of : Waiting → Option ℕ
handed_of waiting = waiting.handed

-- how many of them are answered alone, one after the other, before others are answered together
abbrev pub alone_of : Waiting → ℕ
alone_of waiting = waiting.alone

-- how long the first one waits while something else may be there, in milliseconds
abbrev pub patience_of : Waiting → ℕ
patience_of waiting = waiting.patience

-- as long as the last commit took, and at most 10 milliseconds
abbrev pub patience_after : ℕ → Option ℕ → ℕ → ℕ
patience_after now None patience = patience
patience_after now (Some handed) patience = min (now - handed) 10

-- whether they are handed over
abbrev pub is_due : ℕ → Bool → Waiting → Bool
is_due now is_idle waiting =
    not (nat_le (length (waiting_of waiting)) 0) && (nat_le 64 (length (waiting_of waiting)) || (nat_le (patience_of waiting) (now - since_of waiting) || is_idle))
