-- Lines of a text, and words of a line.
use Rattle.std.specs.{Prelude.{ℕ, ◌==◌, List}, List.slice_split}

-- the octet after each line
abbrev pub line_feed : ℕ
line_feed = 10

-- the octet between two words of a line
abbrev pub space : ℕ
space = 32

-- the parts of a text that line feeds separate, of which the last follows the last line feed and may be empty
abbrev pub lines_in : List ℕ → List (List ℕ)
lines_in text = slice_split (λ octet. octet == line_feed) text

-- the parts of a line that spaces separate
abbrev pub words_in : List ℕ → List (List ℕ)
words_in line = slice_split (λ octet. octet == space) line
