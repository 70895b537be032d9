-- UUIDs of machines.
use Rattle.std.specs.Prelude.{ℕ, List, Option, Some, None, if◌then◌else◌}
use Rattle.pxe_vendor.specs.Blank.{is_blank}

-- the octets, if they identify a machine
abbrev pub unless_blank : List ℕ → Option (List ℕ)
unless_blank octets = if is_blank octets then None else Some octets
