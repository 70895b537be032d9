-- Option overload: which fields of a message hold options after the options field (RFC 2132 section 9.3).
use Rattle.std.specs.Prelude.{ℕ, true, false, List, [], ◌∷◌, Option, Some, None, ◌==◌, if◌then◌else◌}
use Rattle.dhcp_frame.specs.declared.overload.Overload.{Overload}

-- The fields that the joined value of option 52 names: none without the option, with 1 the file field,
-- with 2 the server name field, with 3 both. Any other value is bad.
unfoldable pub overload_of : Option (List ℕ) → Option Overload
overload_of None = Some (record { file = false; sname = false })
overload_of (Some (n ∷ [])) =
    if n == 1 then Some (record { file = true; sname = false })
    else if n == 2 then Some (record { file = false; sname = true })
    else if n == 3 then Some (record { file = true; sname = true })
    else None
overload_of (Some octets) = None
