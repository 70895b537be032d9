use Rattle.std.proofs.Common.{◌≡◌, take}
use Rattle.ipxe_script.proofs.words.Words.copy.Given as goal

-- the copies are those of the words so far
abbrev pub invariant-loop-word : goal.invariant-loop-word
invariant-loop-word l = l.items.items ≡ take l.word-index l.word-items
