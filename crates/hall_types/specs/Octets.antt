-- Lists of octets of a fixed length.
use Rattle.std.specs.{Prelude.{◌≡◌, ◌<◌, ℕ, List, Option, length, slice_index}, Result.result_ok}
use Rattle.hex.specs.Hex.{decode_sized}

-- so many octets
abbrev pub AreOctets : ℕ → List ℕ → Type 0
AreOctets count octets = (length octets ≡ count) × ((i : ℕ) → slice_index octets i < 256)

-- so many octets, two hexadecimal digits each, in either case
abbrev pub octets_of_text : ℕ → List ℕ → Option (List ℕ)
octets_of_text count text = result_ok (decode_sized text count)
