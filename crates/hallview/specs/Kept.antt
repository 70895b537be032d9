-- How many octets the answers may have that clients haven't taken whole.
use Rattle.std.specs.Prelude.{◌≡◌, ◌⊎◌, ◌+◌, ◌-◌, ◌^◌, ◌==◌, ◌||◌, ℕ, Bool, true, min, nat_le}

-- an answer of so many octets may wait beside these: as the only one, as a small one, or if all are 256 MiB at most
abbrev pub has_room : ℕ → ℕ → Bool
has_room kept len = (kept == 0) || nat_le len 262144 || nat_le (min (kept + len) (2 ^ 64 - 1)) 268435456

-- no answer was kept, or one more that may wait beside those before it
abbrev pub IsKept : ℕ → ℕ → Type 0
IsKept old new = (new ≡ old) ⊎ ((len : ℕ) × (has_room old len ≡ true) × (new ≡ min (old + len) (2 ^ 64 - 1)))
