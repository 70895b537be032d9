-- Numbers in decimal digits.
use Rattle.std.specs.{Prelude.{ℕ, Bool, ◌+◌, ◌*◌, ◌-◌, ◌==◌, ◌&&◌, ◌||◌, not, nat_le, List, [], ◌∷◌, length, slice_index, Option, Some, None, if◌then◌else◌}, Char.is_ascii_digit, List.list_all}

-- the number that digits write after those of n
abbrev pub decimal_after : ℕ → List ℕ → ℕ
decimal_after n [] = n
decimal_after n (digit ∷ digits) = decimal_after (n * 10 + (digit - 48)) digits

-- the number that digits write
abbrev pub decimal_value : List ℕ → ℕ
decimal_value digits = decimal_after 0 digits

-- 1 to 16 digits, and no leading zero but in `0`
abbrev pub is_numeral : List ℕ → Bool
is_numeral text =
    nat_le 1 (length text) && nat_le (length text) 16 && list_all is_ascii_digit text && (length text == 1 || not (slice_index text 0 == 48))

-- the number that such a text writes
abbrev pub numeral : List ℕ → Option ℕ
numeral text = if is_numeral text then Some (decimal_value text) else None
