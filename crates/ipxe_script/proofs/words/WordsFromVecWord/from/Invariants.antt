use Rattle.std.proofs.Common.{ℕ, List, ◌<◌, get_or}
use Rattle.ipxe_script.specs.Word.{IsWord}
use Rattle.ipxe_script.proofs.words.WordsFromVecWord.from.Given as goal

-- each so far is a word
abbrev pub invariant-loop-word : goal.invariant-loop-word
invariant-loop-word l = (k : ℕ) (d : List ℕ) → k < l.word-index → IsWord (get_or l.word-items k d)
