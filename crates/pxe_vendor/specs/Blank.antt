-- UUIDs that identify no machine (SMBIOS, DSP0134 section 7.2.1).
use Rattle.std.specs.{Prelude.{ℕ, Bool, List, ◌==◌, ◌||◌}, List.list_all}

-- octets that are all 0 or all 255 identify no machine
abbrev pub is_blank : List ℕ → Bool
is_blank octets = list_all (λ octet. octet == 0) octets || list_all (λ octet. octet == 255) octets
