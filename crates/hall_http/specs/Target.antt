-- What the segments of a request's target mean (RFC 3986 section 3.3).
use Rattle.std.specs.Prelude.{ℕ, zero, suc, ◌+◌, List, ◌∷◌, Option, length, take, drop, position, unwrap_or, ◌==◌, ◌&&◌, ◌||◌, Bool, false, if◌then◌else◌}
use Rattle.hall_http.specs.Prelude.{mac_of}

-- where the first slash stands, or the end
abbrev pub slash_index : List ℕ → ℕ
slash_index octets = unwrap_or (position (λ octet. octet == 47) octets) (length octets)

-- a segment, counted from what stands before the first slash
abbrev pub segment : ℕ → List ℕ → List ℕ
segment zero octets = take (slash_index octets) octets
segment (suc n) octets = segment n (drop (slash_index octets + 1) octets)

-- a percent sign, `3`, and `A` or `a`: a colon (RFC 3986 section 2.1)
abbrev pub is_coded_colon : ℕ → ℕ → ℕ → Bool
is_coded_colon percent high low = (percent == 37) && (high == 51) && ((low == 65) || (low == 97))

-- with a colon for each `%3A` and `%3a`
unfoldable pub with_colons : List ℕ → List ℕ
with_colons (a ∷ b ∷ c ∷ octets) =
    if is_coded_colon a b c then 58 ∷ with_colons octets else a ∷ with_colons (b ∷ c ∷ octets)
with_colons other = other

-- a percent-encoded colon comes first
abbrev pub begins_with_coded_colon : List ℕ → Bool
begins_with_coded_colon (a ∷ b ∷ c ∷ octets) = is_coded_colon a b c
begins_with_coded_colon other = false

-- a hardware address, whose colons may be percent-encoded
abbrev pub address_of : List ℕ → Option (List ℕ)
address_of text = mac_of (with_colons text)
