use Rattle.std.{proofs.Common.{◌≡◌, ◌⊎◌, [], false}, specs.Io.KnownBytes.Consumes}
use Rattle.hall_desk.specs.Prelude.{calls_of, failed_of, inner_of, takes_of, Ends}
use Rattle.hall_desk.proofs.reading.read_request.Given as goal

abbrev pub invariant-loop-turn : goal.invariant-loop-turn
invariant-loop-turn g l =
    Consumes (g.R.Read.remaining (inner_of l.fn.reader)) (g.R.Read.remaining (inner_of l.reader)) l.partial
    × (takes_of l.reader ≡ l.turn) × (failed_of l.reader ≡ false)
    × ((l.partial ≡ []) ⊎ ¬ (Ends l.partial))
    × (calls_of l.fn.reader ≡ 0 → calls_of l.reader ≡ l.turn)
