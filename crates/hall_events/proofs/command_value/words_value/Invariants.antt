use Rattle.std.proofs.Common.{◌≡◌, ◌++◌, map, drop}
use Rattle.serde_json.specs.{Data.string, View.view}
use Rattle.hall_events.proofs.command_value.words_value.Given as goal

-- the values so far, with those of the words that are left, are the whole
abbrev pub invariant-loop-word : goal.invariant-loop-word
invariant-loop-word l = map view l.items.items ++ map string (drop l.word-index l.words) ≡ map string l.words
