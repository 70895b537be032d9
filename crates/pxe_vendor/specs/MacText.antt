-- Hardware addresses as text: six octets in hexadecimal with a colon between, as in 52:54:00:12:34:56.
use Rattle.std.specs.{Prelude.{◌≡◌, ℕ, ◌+◌, ◌*◌, ◌/◌, ◌%◌, ◌==◌, if◌then◌else◌, List, [], ◌∷◌, length, map, slice_index, Option, Some, None, option_and_then, option_map}, List.join_with_byte, Str.str_to_ascii_lowercase}
use Rattle.hex.specs.Hex.{IsBytes, encode_lower, lower_digits, hex_digit_value}
use Rattle.pxe_vendor.specs.declared.address.TheConstants.{ADDRESS_LEN, TEXT_LEN, COLON}

-- the octets' pairs of lower-case digits, with a colon between each two
abbrev pub mac_text : List ℕ → List ℕ
mac_text octets = join_with_byte COLON (map (λ octet. encode_lower (octet ∷ [])) octets)

-- the lower-case hexadecimal digit of a value
abbrev pub digit : ℕ → ℕ
digit value = slice_index lower_digits value

-- the text of octets, each with a colon before it
abbrev pub more_text : List ℕ → List ℕ
more_text [] = []
more_text (octet ∷ octets) = COLON ∷ digit (octet / 16) ∷ digit (octet % 16) ∷ more_text octets

-- The text, in either case of its digits, is the address of these six octets.
pub record IsMacText (text octets : List ℕ) : Type 0 where
  pub six : length octets ≡ ADDRESS_LEN
  pub small : IsBytes octets
  pub written : str_to_ascii_lowercase text ≡ mac_text octets

-- ---- the program for `IsMacText`

-- the octet of two digits in either case
abbrev pub octet_of : ℕ → ℕ → Option ℕ
octet_of high low =
    option_and_then (λ h. option_map (λ l. h * 16 + l) (hex_digit_value low)) (hex_digit_value high)

-- an octet and the octets after it, where both are found
abbrev pub octet_then : Option ℕ → Option (List ℕ) → Option (List ℕ)
octet_then octet octets = option_and_then (λ first. option_map (λ others. first ∷ others) octets) octet

-- the octets of pairs of digits, each with a colon before it
unfoldable pub more_octets : List ℕ → Option (List ℕ)
more_octets [] = Some []
more_octets (colon ∷ high ∷ low ∷ rest) =
    if colon == COLON then octet_then (octet_of high low) (more_octets rest) else None
more_octets _ = None

-- the octets of an address: with a colon before it, it is such pairs
unfoldable pub mac_of : List ℕ → Option (List ℕ)
mac_of text = if length text == TEXT_LEN then more_octets (COLON ∷ text) else None
