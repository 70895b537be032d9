-- What is spelled is understood.
use Rattle.std.{proofs.{Common.{◌≡◌, ℕ, ◌≤◌, false, List, [], ◌∷◌, ◌++◌, length, map, Ok, refl, arith}, lemmas.{List.{length-map, Elements.recursion_from_All}, Bool.{le-ltb, or_from}}}, specs.{Prelude.codes, List.{AllByRecursion, list_any, flat_map}}}
use Rattle.ipxe_script.{specs.{Script.{words_of, line_of, spelling, IsWhole, IsLine, IsScript}, Understood.{lone_command, kernel_of, initrd_of, sanboot_of, echo_of, command_of, commands_of, is_long_line, are_too_many, lines_of, body_of, understood}, declared.command.{TheConstants.{MAX_COMMANDS, MAX_WORDS}, Command.{Command, TheVariants.{Kernel, Initrd, Echo}}}, LineLaws.{text_of, words_in-text_of, slice_split-lines}}, proofs.{WordLemmas.list_all-from_IsWord, ReadingLemmas.ended_pieces-whole}}

pub command_of-words_of : (command : Command) → IsWhole command → command_of (words_of command) ≡ Ok command
unfolding command_of lone_command kernel_of initrd_of sanboot_of echo_of
command_of-words_of (Kernel uri args) h = rw (h.0, list_all-from_IsWord args h.1) refl
command_of-words_of (Initrd uri) h = rw h refl
command_of-words_of (Echo []) h = absurd (omega (arith, h.1))
command_of-words_of (Echo (word ∷ words)) h = rw (list_all-from_IsWord (word ∷ words) h.0) refl
command_of-words_of other h = refl

-- ---- the lines

lines_of-lines : (commands : List Command) → AllByRecursion IsLine commands → lines_of (flat_map line_of commands) ≡ Ok (map text_of commands)
lines_of-lines commands h = rw (slice_split-lines commands h) (ended_pieces-whole (map text_of commands) [] refl)

is_long_line-text_of : (command : Command) → IsLine command → is_long_line (text_of command) ≡ false
unfolding is_long_line
is_long_line-text_of command h = rw (words_in-text_of command h.whole) (le-ltb MAX_WORDS (length (words_of command)) h.few)

no_long_line : (commands : List Command) → AllByRecursion IsLine commands → list_any is_long_line (map text_of commands) ≡ false
no_long_line [] h = refl
no_long_line (command ∷ commands) h = rw (is_long_line-text_of command h.0, no_long_line commands h.1) refl

are_too_many-lines : (commands : List Command) → length commands ≤ MAX_COMMANDS → AllByRecursion IsLine commands → are_too_many (map text_of commands) ≡ false
unfolding are_too_many
are_too_many-lines commands few h =
    or_from _ _ (le-ltb MAX_COMMANDS (length (map text_of commands)) (omega (arith, length-map commands text_of))) (no_long_line commands h)

commands_of-lines : (commands : List Command) → AllByRecursion IsLine commands → commands_of (map text_of commands) ≡ Ok commands
unfolding commands_of
commands_of-lines [] h = refl
commands_of-lines (command ∷ commands) h =
    rw (words_in-text_of command h.0.whole, command_of-words_of command h.0.whole, commands_of-lines commands h.1) refl

-- ---- the script

body_of-spelling : (rest : List ℕ) → body_of (codes "#!ipxe\n" ++ rest) ≡ Ok rest
unfolding body_of
body_of-spelling rest = refl

pub understood-spelling : (commands : List Command) → IsScript commands → understood (spelling commands) ≡ Ok commands
unfolding understood
understood-spelling commands h =
    let lines = recursion_from_All IsLine commands h.lines in
    rw (body_of-spelling (flat_map line_of commands), lines_of-lines commands lines, are_too_many-lines commands h.few lines, commands_of-lines commands lines) refl
