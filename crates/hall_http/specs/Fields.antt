-- What the fields of a request's head say (RFC 9110 sections 8.6 and 11.6.2; RFC 9112 section 6).
use Rattle.std.specs.{Prelude.{ℕ, ◌+◌, List, [], ◌∷◌, Option, Some, None, option_and_then, Result, Ok, Err, codes, length, take, drop, nat_le, nat_eq, ◌&&◌, Bool, if◌then◌else◌}, List.list_all, Str.str_eq_ignore_ascii_case, Char.is_ascii_digit}
use Rattle.hall_http.specs.{Prelude.{sha256, decimal_value}, declared.fault.HttpFault.{HttpFault, TheVariants.{BadRequest, NeedLength, TooLarge}}, Answer.◌>>=◌}

-- a field: its name and its value
abbrev pub FieldPair : Type 0
FieldPair = List ℕ × List ℕ

-- how many fields have this name, in either case
abbrev pub count : List ℕ → List FieldPair → ℕ
count name [] = 0
count name (field ∷ fields) = (if str_eq_ignore_ascii_case field.0 name then 1 else 0) + count name fields

-- the value of the first field with this name, in either case
abbrev pub first_value : List ℕ → List FieldPair → Option (List ℕ)
first_value name [] = None
first_value name (field ∷ fields) = if str_eq_ignore_ascii_case field.0 name then Some field.1 else first_value name fields

-- ---- the length of the body

-- 1 to 9 digits
abbrev pub is_length : List ℕ → Bool
is_length text = nat_le 1 (length text) && nat_le (length text) 9 && list_all is_ascii_digit text

abbrev pub length_of : Option (List ℕ) → Result ℕ HttpFault
length_of None = Err NeedLength
length_of (Some text) = if is_length text then Ok (decimal_value text) else Err BadRequest

-- a body has at most 16,384 octets
abbrev pub within_limit : ℕ → Result ℕ HttpFault
within_limit n = if nat_le n 16384 then Ok n else Err TooLarge

-- no Transfer-Encoding, and not more than one Content-Length
abbrev pub has_plain_body : List FieldPair → Bool
has_plain_body fields = nat_eq (count (codes "transfer-encoding") fields) 0 && nat_le (count (codes "content-length") fields) 1

-- how many octets the body is said to have
abbrev pub body_length : List FieldPair → Result ℕ HttpFault
body_length fields =
    if has_plain_body fields then (length_of (first_value (codes "content-length") fields) >>= within_limit) else Err BadRequest

-- ---- the bearer token (RFC 6750 section 2.1)

-- visible ASCII
abbrev pub is_visible : ℕ → Bool
is_visible octet = nat_le 33 octet && nat_le octet 126

-- 1 to 128 visible characters
abbrev pub is_bearer_token : List ℕ → Bool
is_bearer_token text = nat_le 1 (length text) && nat_le (length text) 128 && list_all is_visible text

-- `Bearer` in any case, one space, and a token
abbrev pub has_bearer_token : List ℕ → Bool
has_bearer_token text =
    nat_le 7 (length text) && str_eq_ignore_ascii_case (take 7 text) (codes "bearer ") && is_bearer_token (drop 7 text)

-- the digest of the token
abbrev pub bearer_digest : List ℕ → Option (List ℕ)
bearer_digest text = if has_bearer_token text then Some (sha256 (drop 7 text)) else None

-- the digest of the token that the first Authorization field brings
abbrev pub bearer : List FieldPair → Option (List ℕ)
bearer fields = option_and_then bearer_digest (first_value (codes "authorization") fields)
