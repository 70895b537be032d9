-- Laws of lines, for the proofs of callers: the words of a printed line and the lines of a printed script are found again.
use Rattle.std.{proofs.{Common.{◌≡◌, ℕ, ◌<◌, true, false, List, [], ◌∷◌, ◌++◌, length, map, All, refl, sym, ap, ◌∙◌, arith, append_assoc}, lemmas.{Bool.{both_ways, and_parts, ne_eqb, eq-eqb}, List.{Elements.{All-nil, All-cons, All-append, recursion_from_All}, Splits.{slice_split_none, slice_split_at}}}}, specs.{Prelude.{◌==◌, codes}, List.{AllByRecursion, list_all, flat_map, join_with_byte, slice_split}}}
use Rattle.ipxe_script.specs.{Word.{is_first_octet, is_word_octet, is_word, IsWord}, WordLaws.{IsWord-from_IsUri, AreWordOctets-from_IsWord}, Text.{line_feed, space, lines_in, words_in}, Script.{words_of, line_of, spelling, IsWhole, IsLine}, declared.command.Command.{Command, TheVariants.{Kernel, Initrd, Sanboot, Echo}}}

-- no octet of the text is c
abbrev pub IsApart : ℕ → List ℕ → Type 0
IsApart c text = All (λ octet. (octet == c) ≡ false) text

pub space_in_no_word : is_word_octet space ≡ false
unfolding is_word_octet is_first_octet
space_in_no_word = refl

pub line_feed_in_no_word : is_word_octet line_feed ≡ false
unfolding is_word_octet is_first_octet
line_feed_in_no_word = refl

octets_apart : (c : ℕ) → is_word_octet c ≡ false → (text : List ℕ) → list_all is_word_octet text ≡ true → IsApart c text
octets_apart c bad [] h = All-nil (λ octet. (octet == c) ≡ false)
octets_apart c bad (octet ∷ text) h =
    let parts = and_parts (is_word_octet octet) (list_all is_word_octet text) h in
    All-cons (λ octet. (octet == c) ≡ false) octet text
    (ne_eqb octet c (λ e. both_ways (is_word_octet c) bad (sym (ap is_word_octet e) ∙ parts.0)))
    (octets_apart c bad text parts.1)

pub IsApart-from_IsWord : (c : ℕ) → is_word_octet c ≡ false → (text : List ℕ) → IsWord text → IsApart c text
IsApart-from_IsWord c bad text h = octets_apart c bad text (AreWordOctets-from_IsWord text h)

pub each_apart : (c : ℕ) → is_word_octet c ≡ false → (words : List (List ℕ)) → AllByRecursion IsWord words → AllByRecursion (IsApart c) words
each_apart c bad [] h = tt
each_apart c bad (word ∷ words) h = (IsApart-from_IsWord c bad word h.0, each_apart c bad words h.1)

-- ---- words of a command

-- a command's name is a word too
pub words_are_words : (command : Command) → IsWhole command → AllByRecursion IsWord (words_of command)
unfolding is_word is_word_octet is_first_octet
words_are_words (Kernel uri args) h = (refl, (IsWord-from_IsUri uri h.0, recursion_from_All IsWord args h.1))
words_are_words (Initrd uri) h = (refl, (IsWord-from_IsUri uri h, tt))
words_are_words Sanboot h = (refl, (refl, (refl, (refl, tt))))
words_are_words (Echo words) h = (refl, recursion_from_All IsWord words h.0)
words_are_words other h = (refl, tt)

-- ---- joined and cut again

pub slice_split-join : (c : ℕ) (first : List ℕ) (words : List (List ℕ)) → IsApart c first → AllByRecursion (IsApart c) words → slice_split (λ octet. octet == c) (join_with_byte c (first ∷ words)) ≡ first ∷ words
slice_split-join c first [] a h = slice_split_none (λ octet. octet == c) first a
slice_split-join c first (next ∷ words) a h =
    slice_split_at (λ octet. octet == c) first c (join_with_byte c (next ∷ words)) a (eq-eqb c c refl)
    ∙ ap (λ (x : List (List ℕ)). first ∷ x) (slice_split-join c next words h.0 h.1)

pub IsApart-join : (first : List ℕ) (words : List (List ℕ)) → IsApart line_feed first → AllByRecursion (IsApart line_feed) words → IsApart line_feed (join_with_byte space (first ∷ words))
IsApart-join first [] a h = a
IsApart-join first (next ∷ words) a h =
    All-append (λ octet. (octet == line_feed) ≡ false) first (space ∷ join_with_byte space (next ∷ words)) a
    (All-cons (λ octet. (octet == line_feed) ≡ false) space (join_with_byte space (next ∷ words)) refl (IsApart-join next words h.0 h.1))

-- a line without its line feed
abbrev pub text_of : Command → List ℕ
text_of command = join_with_byte space (words_of command)

-- ---- a line

-- where no word is cut, each word is found again
joined : (words : List (List ℕ)) → AllByRecursion IsWord words → 0 < length words → words_in (join_with_byte space words) ≡ words
joined [] h some = absurd (omega arith)
joined (first ∷ words) h some = let apart = each_apart space space_in_no_word (first ∷ words) h in slice_split-join space first words apart.0 apart.1

no_line_feed : (words : List (List ℕ)) → AllByRecursion IsWord words → 0 < length words → IsApart line_feed (join_with_byte space words)
no_line_feed [] h some = absurd (omega arith)
no_line_feed (first ∷ words) h some = let apart = each_apart line_feed line_feed_in_no_word (first ∷ words) h in IsApart-join first words apart.0 apart.1

words_nonempty : (command : Command) → 0 < length (words_of command)
words_nonempty (Kernel uri args) = omega arith
words_nonempty other = omega arith

pub words_in-text_of : (command : Command) → IsWhole command → words_in (text_of command) ≡ words_of command
words_in-text_of command h = joined (words_of command) (words_are_words command h) (words_nonempty command)

pub text_of-apart : (command : Command) → IsWhole command → IsApart line_feed (text_of command)
text_of-apart command h = no_line_feed (words_of command) (words_are_words command h) (words_nonempty command)

-- ---- the lines

pub slice_split-lines : (commands : List Command) → AllByRecursion IsLine commands → slice_split (λ octet. octet == line_feed) (flat_map line_of commands) ≡ map text_of commands ++ [] ∷ []
slice_split-lines [] h = refl
slice_split-lines (command ∷ commands) h =
    ap (λ (x : List ℕ). slice_split (λ octet. octet == line_feed) x) (append_assoc (text_of command) (line_feed ∷ []) (flat_map line_of commands))
    ∙ slice_split_at (λ octet. octet == line_feed) (text_of command) line_feed (flat_map line_of commands) (text_of-apart command h.0.whole) refl
    ∙ ap (λ (x : List (List ℕ)). text_of command ∷ x) (slice_split-lines commands h.1)

-- the lines of a printed script: its head, the lines of the commands, and nothing after the last line feed
pub lines_in-spelling : (commands : List Command) → AllByRecursion IsLine commands → lines_in (spelling commands) ≡ codes "#!ipxe" ∷ (map text_of commands ++ [] ∷ [])
lines_in-spelling commands h = ap (λ (x : List (List ℕ)). codes "#!ipxe" ∷ x) (slice_split-lines commands h)
