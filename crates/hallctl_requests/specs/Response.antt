-- How a client reads the octets that the desk sent until it closed the connection (RFC 9112 sections 4 and 6; RFC 9110 section 8.6).
use Rattle.std.specs.{Prelude.{◌≡◌, ◌<◌, ◌≤◌, ◌⊎◌, ℕ, List, Option, Some, None, Result, Ok, Err, Bool, codes, length, map, drop, nat_eq, nat_le, nat_lt, ◌&&◌, if◌then◌else◌}, List.list_all, Char.is_ascii_digit}
use Rattle.httparse.specs.Grammar.{print_response}
use Rattle.hallctl_requests.specs.{Prelude.{ResponseHead, ReadsResponse, MayBecomeResponse, NeverHasResponse, status_code, ResponseExceeds, IsResponseAt, IsResponseWithin, name_and_value, HeaderSpan, ResponseSpans, FieldPair, count, first_value, front, decimal_value}, declared.response.{Look.{Look, TheVariants.{Head, Open, Many, Never}}, Response.Response, ResponseFault.{ResponseFault, TheVariants.{NotHttp, Cut, TooLong}}}}

-- ---- a complete head

-- a length of 1 to 15 digits
abbrev pub is_size : List ℕ → Bool
is_size text = nat_le 1 (length text) && nat_le (length text) 15 && list_all is_ascii_digit text

abbrev pub size_of : Option (List ℕ) → Option ℕ
size_of None = None
size_of (Some text) = if is_size text then Some (decimal_value text) else None

-- no Transfer-Encoding, and exactly one Content-Length
abbrev pub has_one_size : List FieldPair → Bool
has_one_size fields = nat_eq (count (codes "transfer-encoding") fields) 0 && nat_eq (count (codes "content-length") fields) 1

-- how many octets the body is said to have
abbrev pub said_size : List FieldPair → Option ℕ
said_size fields = if has_one_size fields then size_of (first_value (codes "content-length") fields) else None

-- what follows the head has so many octets
abbrev pub body_of : ℕ → List ℕ → Result (List ℕ) ResponseFault
body_of size after =
    if nat_lt (length after) size then Err Cut
    else if nat_lt size (length after) then Err NotHttp
    else Ok after

abbrev pub with_status : ℕ → Result (List ℕ) ResponseFault → Result (ℕ × List ℕ) ResponseFault
with_status status (Ok body) = Ok (status, body)
with_status status (Err fault) = Err fault

abbrev pub sized : ℕ → Option ℕ → List ℕ → Result (ℕ × List ℕ) ResponseFault
sized status None after = Err NotHttp
sized status (Some size) after = with_status status (body_of size after)

-- the status and the body, or the first fault, of a head's status and fields with what follows the head
abbrev pub answer_of : ℕ → List FieldPair → List ℕ → Result (ℕ × List ℕ) ResponseFault
answer_of status fields after = sized status (said_size fields) after

-- ---- what octets begin with

-- no head at the front has so few fields
abbrev pub HasNoHead : List ℕ → ℕ → Type 0
HasNoHead octets room = (head : ResponseHead) (rest : List ℕ) → ReadsResponse octets head rest → room < length head.fields

-- a head stands at the front and its fields fit the room, and the spans are those of each head that does
pub record HasHead (octets : List ℕ) (headers : List HeaderSpan) (spans : ResponseSpans) : Type 0 where
  pub each : (head : ResponseHead) (rest : List ℕ) → ReadsResponse octets head rest → length head.fields ≤ length headers → IsResponseAt octets headers spans head
  pub some : (head : ResponseHead) × (rest : List ℕ) × ReadsResponse octets head rest × (length head.fields ≤ length headers)

-- what a look finds
abbrev pub FindsHead : List ℕ → ℕ → List HeaderSpan → Look → Type 0
FindsHead octets room headers (Head spans) = IsResponseWithin octets headers spans × HasHead octets headers spans
FindsHead octets room headers Open = HasNoHead octets room × MayBecomeResponse octets
FindsHead octets room headers Many = HasNoHead octets room × ResponseExceeds room octets
FindsHead octets room headers Never = HasNoHead octets room × NeverHasResponse octets

-- ---- all octets

-- the status and the body of a response
abbrev pub said : Result Response ResponseFault → Result (ℕ × List ℕ) ResponseFault
said (Ok response) = Ok (response.status, response.body.now)
said (Err fault) = Err fault

-- why there is no head: it may still become one, it is too long or has too many fields, or it never becomes one
abbrev pub Lacks : List ℕ → Result (ℕ × List ℕ) ResponseFault → Type 0
Lacks octets (Ok answer) = ⊥
Lacks octets (Err Cut) = MayBecomeResponse (front octets) × (length octets < 8192)
Lacks octets (Err TooLong) = (MayBecomeResponse (front octets) × (8192 ≤ length octets)) ⊎ ResponseExceeds 64 (front octets)
Lacks octets (Err NotHttp) = NeverHasResponse (front octets)

-- where the first 8,192 octets hold a complete head of at most 64 fields, the result is that of the head; where they hold none, it says why
pub record IsReading (octets : List ℕ) (result : Result (ℕ × List ℕ) ResponseFault) : Type 0 where
  pub head : (head : ResponseHead) (rest : List ℕ) → ReadsResponse (front octets) head rest → length head.fields ≤ 64
      → result ≡ answer_of (status_code head) (map name_and_value head.fields) (drop (length (print_response head)) octets)
  pub none : HasNoHead (front octets) 64 → Lacks octets result
