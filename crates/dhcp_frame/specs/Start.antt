-- The start of a joined value: its first octet if it has one octet, and else how many there are.
use Rattle.std.specs.Prelude.{ℕ, List, [], ◌∷◌, Option, Some, None, unwrap_or}
use Rattle.dhcp_frame.specs.declared.overload.Start.{Start, TheVariants.{Absent, Empty, One, Long}}

-- the start of this value
unfoldable pub start_of : Option (List ℕ) → Start
start_of None = Absent
start_of (Some []) = Empty
start_of (Some (b ∷ [])) = One b
start_of (Some (b ∷ c ∷ octets)) = Long

-- the start of a joined value that begins with this start, after one more value is joined
unfoldable pub start_with : Start → Option (List ℕ) → Start
start_with Absent more = start_of more
start_with Empty more = start_of (Some (unwrap_or more []))
start_with (One b) more = start_of (Some (b ∷ unwrap_or more []))
start_with Long more = Long
