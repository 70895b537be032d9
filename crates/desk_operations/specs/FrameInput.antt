-- The program's input: Ethernet addresses, each on a line, an empty line, and one line of hexadecimal.
use Rattle.std.specs.{Prelude.{◌≡◌, ◌≢◌, ℕ, ◌==◌, if◌then◌else◌, List, [], ◌∷◌, ◌++◌, length, Option, Some, None, Ok, option_and_then, option_map}, List.slice_split, Result.result_ok}
use Rattle.desk_operations.specs.Prelude.{decode_of, IsMacText, mac_of}

-- The line is these octets in hexadecimal. Its line feed may be missing, but then it isn't empty.
pub data IsHexLine : List ℕ → List ℕ → Type 0 where
  ended : (line digits octets : List ℕ) → line ≡ digits ++ 10 ∷ [] → decode_of digits ≡ Ok octets → IsHexLine line octets
  open_ended : (line octets : List ℕ) → line ≢ [] → decode_of line ≡ Ok octets → IsHexLine line octets

-- The input has these addresses and these octets.
pub data IsInput : List ℕ → List (List ℕ) → List ℕ → Type 0 where
  -- the empty line, and the line of hexadecimal
  frame : (input line octets : List ℕ) → input ≡ 10 ∷ line → IsHexLine line octets → IsInput input [] octets
  -- an address on its line, and then the other input
  address : (input text rest octets mac : List ℕ) (macs : List (List ℕ)) → input ≡ text ++ 10 ∷ rest
      → IsMacText text mac → IsInput rest macs octets → IsInput input (mac ∷ macs) octets

-- the addresses and the octets in an input
pub record Understood : Type 0 where
  pub addresses : List (List ℕ)
  pub octets : List ℕ

-- ---- the program for `IsInput`

-- the texts between the line feeds
unfoldable pub lines_of : List ℕ → List (List ℕ)
lines_of text = slice_split (λ c. c == 10) text

-- the only line, where there is one line
unfoldable pub only_line : List (List ℕ) → Option (List ℕ)
only_line (line ∷ []) = if length line == 0 then None else Some line
only_line (line ∷ after ∷ []) = if length after == 0 then Some line else None
only_line lines = None

-- the octets of the only line, in hexadecimal
abbrev pub hex_octets : List (List ℕ) → Option (List ℕ)
hex_octets lines = option_and_then (λ digits. result_ok (decode_of digits)) (only_line lines)

-- an input without addresses
abbrev pub framed : List ℕ → Understood
framed octets = record { addresses = []; octets = octets }

-- an input with one more address before the others
abbrev pub listed : List ℕ → Understood → Understood
listed mac u = record u { addresses = mac ∷ u.addresses }

-- an input with an address before the others, where both are found
abbrev pub listed_then : Option (List ℕ) → Option Understood → Option Understood
listed_then mac rest = option_and_then (λ first. option_map (listed first) rest) mac

-- the addresses and the octets in the lines of an input
unfoldable pub understood_lines : List (List ℕ) → Option Understood
understood_lines [] = None
understood_lines (line ∷ lines) =
    if length line == 0 then option_map framed (hex_octets lines)
    else listed_then (mac_of line) (understood_lines lines)

-- the addresses and the octets in an input, or nothing where it is bad
unfoldable pub understood : List ℕ → Option Understood
understood input = understood_lines (lines_of input)
