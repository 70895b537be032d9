use Rattle.std.{proofs.Common.{◌≡◌, ◌++◌, ◌∷◌, string_bytes, drop}, specs.List.flat_map}
use Rattle.ipxe_script.specs.Text.{space}
use Rattle.ipxe_script.proofs.print.push_words.Given as goal

-- the octets written so far and the remaining words are the whole text
abbrev pub invariant-loop-word : goal.invariant-loop-word
invariant-loop-word l =
    string_bytes l.out ++ flat_map (λ word. space ∷ word) (drop l.word-index l.words)
    ≡ string_bytes l.fn.out ++ flat_map (λ word. space ∷ word) l.words
