-- The values of an operator's words.
use Rattle.std.specs.Prelude.{ℕ, nat_le, List, Option, Some, None, option_and_then, option_map, bytes_eq, codes, if◌then◌else◌}
use Rattle.hall_report.specs.{Prelude.numeral, declared.values.What.What}
use Rattle.hall_report.specs.declared.values.What.TheVariants as what

abbrev count_in : ℕ → Option ℕ
count_in n = if nat_le n 1000000000000000 then Some n else None

-- a count of at most 10^15
abbrev pub count_of_text : List ℕ → Option ℕ
count_of_text text = option_and_then count_in (numeral text)

-- `hall`, `orders` or a machine's number
abbrev pub what_of_text : List ℕ → Option What
what_of_text text =
    if bytes_eq text (codes "hall") then Some what.Hall
    else if bytes_eq text (codes "orders") then Some what.Orders
    else option_map what.Machine (count_of_text text)
