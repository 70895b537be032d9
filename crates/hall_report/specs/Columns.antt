-- Texts in columns.
use Rattle.std.specs.Prelude.{ℕ, ◌-◌, List, ◌++◌, length, replicate}

-- a space
abbrev pub space : ℕ
space = 32

-- a text at the left end of a column of this width; a longer text is whole
unfoldable pub in_left : ℕ → List ℕ → List ℕ
in_left width text = text ++ replicate (width - length text) space

-- a text at the right end of such a column
unfoldable pub in_right : ℕ → List ℕ → List ℕ
in_right width text = replicate (width - length text) space ++ text
