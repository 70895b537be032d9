-- The addresses of the services that boot machines.
use Rattle.std.specs.{Prelude.{ℕ, Bool, false, List, [], ◌∷◌, length, ◌==◌, ◌&&◌, ◌||◌, nat_le}, List.list_all, Char.is_ascii_alphanumeric}
use Rattle.pxe_vendor.specs.declared.place.TheConstants.{MAX_HOST_LEN}

-- the IP addresses of the boot server and of the next server, which has the boot files, and the host of the scripts
pub record Site : Type 0 where
  pub server : List ℕ
  pub next : List ℕ
  pub host : List ℕ

-- a letter, a digit, `-`, `.` or `:`
abbrev pub is_host_octet : ℕ → Bool
is_host_octet c = is_ascii_alphanumeric c || (c == 45) || (c == 46) || (c == 58)

-- a host has 1 to 64 characters: letters, digits, `-`, `.` and `:`, of which the first is a letter or a digit
unfoldable pub is_host : List ℕ → Bool
is_host [] = false
is_host (first ∷ others) = is_ascii_alphanumeric first && nat_le (length (first ∷ others)) MAX_HOST_LEN && list_all is_host_octet others
