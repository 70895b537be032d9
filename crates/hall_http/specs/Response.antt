-- Responses: status line, fields and body (RFC 9112 section 4; RFC 9110 sections 8.3, 8.6 and 15; RFC 4918 section 11.3 for 423).
use Rattle.std.specs.{Prelude.{ℕ, ◌==◌, List, [], ◌∷◌, ◌++◌, codes, length, decimal, unwrap_or, IsTrue}, List.list_any}
use Rattle.hall_http.specs.Prelude.{reason_phrase, Content, stored, boot_file, nothing, Reply, Http, BodyKind, Text, Json}

-- the statuses of responses
abbrev pub statuses : List ℕ
statuses = 200 ∷ 400 ∷ 401 ∷ 403 ∷ 404 ∷ 405 ∷ 409 ∷ 410 ∷ 411 ∷ 412 ∷ 413 ∷ 423 ∷ 503 ∷ []

abbrev pub IsStatus : ℕ → Type 0
IsStatus status = IsTrue (list_any (λ one. one == status) statuses)

-- their phrases
unfoldable pub phrase_of : ℕ → List ℕ
phrase_of status = unwrap_or (reason_phrase status) []

-- the text of a body's kind
unfoldable pub kind_text : BodyKind → List ℕ
kind_text Text = codes "text/plain"
kind_text Json = codes "application/json"

unfoldable pub status_line : ℕ → List ℕ
status_line status = codes "HTTP/1.1 " ++ decimal status ++ codes " " ++ phrase_of status ++ codes "\r\n"

unfoldable pub type_line : List ℕ → List ℕ
type_line text = codes "Content-Type: " ++ text ++ codes "\r\n"

unfoldable pub length_line : ℕ → List ℕ
length_line size = codes "Content-Length: " ++ decimal size ++ codes "\r\n"

-- the connection closes after the response, and an empty line ends the head
unfoldable pub last_lines : List ℕ
last_lines = codes "Connection: close\r\n\r\n"

-- the octets of a response
abbrev pub response : ℕ → BodyKind → List ℕ → List ℕ
response status kind body = status_line status ++ type_line (kind_text kind) ++ length_line (length body) ++ last_lines ++ body

-- the octets of an answer by HTTP
abbrev pub response_of : Reply → List ℕ
response_of (Http status kind body) = response status kind body
response_of other = []

-- an answer by HTTP with one of these statuses
abbrev pub IsResponse : Reply → Type 0
IsResponse (Http status kind body) = IsStatus status
IsResponse other = ⊥

-- what is answered by HTTP; an answer that a receipt keeps has its status
abbrev pub HasResponse : Content → Type 0
HasResponse (stored status body) = IsStatus status
HasResponse (boot_file file) = ⊥
HasResponse nothing = ⊥
HasResponse other = Unit {0}
