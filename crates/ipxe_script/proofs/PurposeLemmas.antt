-- The words of a script contain no separators, and its purpose is an argument.
use Rattle.std.{proofs.{Common.{◌≢◌, ℕ, List, [], ◌∷◌}, lemmas.{Bool.eqb-false, List.Elements.{recursion_from_All, All-nil, All-append, All-from_recursion}}}, specs.{Prelude.{◌↔◌, All, Any, codes}, List.{AllByRecursion, flat_map}}}
use Rattle.ipxe_script.specs.{Word.IsWord, Text.{line_feed, space}, Script.{words_of, spelling, IsLine, IsScript}, LineLaws.{space_in_no_word, line_feed_in_no_word, IsApart-from_IsWord, words_are_words}, Purpose.{IsKernelWith, IsErasing, IsDeploying}, PurposeLaws.{IsArgument-hall, HasKernelWord-spelling}, declared.command.Command.Command}

-- ---- no word contains a space or a line feed

-- neither a space nor a line feed
abbrev pub IsInside : ℕ → Type 0
IsInside octet = (octet ≢ space) × (octet ≢ line_feed)

inside : (word : List ℕ) → IsWord word → All IsInside word
inside word h = λ k d lt. (eqb-false _ space (IsApart-from_IsWord space space_in_no_word word h k d lt), eqb-false _ line_feed (IsApart-from_IsWord line_feed line_feed_in_no_word word h k d lt))

each_inside : (words : List (List ℕ)) → AllByRecursion IsWord words → AllByRecursion (λ word. All IsInside word) words
each_inside [] h = tt
each_inside (word ∷ words) h = (inside word h.0, each_inside words h.1)

lines_inside : (commands : List Command) → AllByRecursion IsLine commands → All (λ word. All IsInside word) (flat_map words_of commands)
lines_inside [] h = All-nil (λ word. All IsInside word)
lines_inside (command ∷ commands) h =
    All-append (λ word. All IsInside word) (words_of command) (flat_map words_of commands)
    (All-from_recursion (λ word. All IsInside word) (words_of command) (each_inside (words_of command) (words_are_words command h.0.whole)))
    (lines_inside commands h.1)

pub words_inside : (commands : List Command) → IsScript commands → All (λ word. All IsInside word) (flat_map words_of commands)
words_inside commands h = lines_inside commands (recursion_from_All IsLine commands h.lines)

-- ---- the purpose

pub erasing : (commands : List Command) → IsScript commands → IsErasing (spelling commands) ↔ Any (IsKernelWith (codes "hall.purpose=erase")) commands
erasing commands script = HasKernelWord-spelling (codes "hall.purpose=erase") commands (IsArgument-hall (codes "purpose=erase")) script

pub deploying : (commands : List Command) → IsScript commands → IsDeploying (spelling commands) ↔ Any (IsKernelWith (codes "hall.purpose=deploy")) commands
deploying commands script = HasKernelWord-spelling (codes "hall.purpose=deploy") commands (IsArgument-hall (codes "purpose=deploy")) script
