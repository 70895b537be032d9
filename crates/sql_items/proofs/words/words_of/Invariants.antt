use Rattle.std.proofs.Common.{◌≡◌, map}
use Rattle.sql_items.proofs.words.words_of.Given as goal

-- the words are the parts so far
abbrev pub invariant-loop-part : goal.invariant-loop-part
invariant-loop-part l = l.words.items ≡ map (λ part. part.now) l.yielded
