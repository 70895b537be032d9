-- Whether octets begin with the head of a request (RFC 9112 sections 2 to 5), in the words of `httparse`.
use Rattle.std.specs.Prelude.{◌<◌, ◌≤◌, ℕ, List, length}
use Rattle.hall_http.specs.{Prelude.{HeaderSpan, RequestSpans, RequestHead, ReadsRequest, MayBecomeRequest, IsRequestAt, IsRequestWithin, RequestOverflows}, declared.head.Look.{Look, TheVariants.{Head, Open, Never}}}

-- no head at the front has so few fields
abbrev pub HasNoHead : List ℕ → ℕ → Type 0
HasNoHead octets room = (head : RequestHead) (rest : List ℕ) → ReadsRequest octets head rest → room < length head.fields

-- a head stands at the front and its fields fit the room, and the spans are those of each head that does
pub record HasHead (octets : List ℕ) (headers : List HeaderSpan) (spans : RequestSpans) : Type 0 where
  pub each : (head : RequestHead) (rest : List ℕ) → ReadsRequest octets head rest → length head.fields ≤ length headers → IsRequestAt octets headers spans head
  pub some : (head : RequestHead) × (rest : List ℕ) × ReadsRequest octets head rest × (length head.fields ≤ length headers)

-- what a look finds
abbrev pub FindsHead : List ℕ → ℕ → List HeaderSpan → Look → Type 0
FindsHead octets room headers (Head spans) = IsRequestWithin octets headers spans × HasHead octets headers spans
FindsHead octets room headers Open = HasNoHead octets room × MayBecomeRequest octets
FindsHead octets room headers Never = RequestOverflows room octets
