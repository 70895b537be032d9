-- Requests of an operator's client and the events that they make (RFC 9112 sections 3 and 5; RFC 9110 sections 7.2, 8.3, 8.6 and 9.3; RFC 6750 section 2.1).
use Rattle.std.specs.{Prelude.{ℕ, List, [], ◌∷◌, ◌++◌, Some, Bool, false, not, codes, decimal, length, nat_le, ◌&&◌, IsTrue}, List.list_all}
use Rattle.httparse.specs.Grammar.{print_request}
use Rattle.hall_events.specs.declared.event.Event.TheVariants as event
use Rattle.hallctl_requests.specs.{Prelude.{Field, RequestHead, crlf, sha256, answer_text, request_text, HallCommand, Outcome, Event, IsNumber, is_visible, IsSendableCommand, is_identified}, declared.requests.Ask.Ask}
use Rattle.hallctl_requests.specs.declared.requests.Ask.TheVariants as ask

-- what is asked of the desk: the list of machines, one machine, the waiting orders, that an order has come to an outcome, or a command with the
-- key of its request
pub data Question : Type 0 where
  machines : Question
  machine : ℕ → Question
  orders : Question
  answer : ℕ → Outcome → Question
  command : List ℕ → HallCommand → Question

-- what an `Ask` asks
abbrev pub asked : Ask → Question
asked ask.Machines = machines
asked (ask.Machine id) = machine id
asked ask.Orders = orders
asked (ask.Answer order outcome) = answer order outcome
asked (ask.Command key c) = command key c.now

-- a command would bring a UUID that identifies no machine
abbrev pub brings_blank : Question → Bool
brings_blank (command key c) = not (is_identified c)
brings_blank other = false

-- the desk reads it as what was meant: a machine and an order have numbers, and a command can be brought by a request
abbrev pub IsSendable : Question → Type 0
IsSendable machines = Unit {0}
IsSendable (machine id) = IsNumber id
IsSendable orders = Unit {0}
IsSendable (answer order outcome) = IsNumber order
IsSendable (command key c) = IsSendableCommand key c

-- 1 to so many visible characters
abbrev pub IsVisibleText : ℕ → List ℕ → Type 0
IsVisibleText max text = IsTrue (nat_le 1 (length text) && nat_le (length text) max && list_all is_visible text)

abbrev pub IsAuthority : List ℕ → Type 0
IsAuthority text = IsVisibleText 255 text

abbrev pub IsBearerToken : List ℕ → Type 0
IsBearerToken text = IsVisibleText 128 text

-- ---- the parts of a request

abbrev pub method_of : Question → List ℕ
method_of (answer order outcome) = codes "POST"
method_of (command key c) = codes "POST"
method_of other = codes "GET"

abbrev pub target_of : Question → List ℕ
target_of machines = codes "/machines"
target_of (machine id) = codes "/machines/" ++ decimal id
target_of orders = codes "/orders"
target_of (answer order outcome) = codes "/orders/" ++ decimal order
target_of (command key c) = codes "/commands"

abbrev pub body_of : Question → List ℕ
body_of (answer order outcome) = answer_text outcome
body_of (command key c) = request_text key c
body_of other = []

-- a field, with a space before its value
abbrev pub field : List ℕ → List ℕ → Field
field name value = record { name = name; raw = 32 ∷ value; end = crlf }

-- what the fields say of a body of JSON
abbrev pub json_fields : List ℕ → List Field
json_fields body = field (codes "Content-Type") (codes "application/json") ∷ field (codes "Content-Length") (decimal (length body)) ∷ []

abbrev pub body_fields : Question → List Field
body_fields (answer order outcome) = json_fields (answer_text outcome)
body_fields (command key c) = json_fields (request_text key c)
body_fields other = []

abbrev pub fields_of : List ℕ → List ℕ → Question → List Field
fields_of authority token question =
    field (codes "Host") authority
    ∷ field (codes "Authorization") (codes "Bearer " ++ token)
    ∷ field (codes "Connection") (codes "close")
    ∷ body_fields question

abbrev pub head_of : List ℕ → List ℕ → Question → RequestHead
head_of authority token question = record {
  blank = [];
  method = method_of question;
  target = target_of question;
  minor = 1;
  line_end = crlf;
  fields = fields_of authority token question;
  last = crlf;
}

-- the octets of a request: its head and its body
unfoldable pub request_of : List ℕ → List ℕ → Question → List ℕ
request_of authority token question = print_request (head_of authority token question) ++ body_of question

-- the event that the desk makes of it
abbrev pub event_of : List ℕ → Question → Event
event_of token machines = event.Machines (Some (sha256 token))
event_of token (machine id) = event.OneMachine (Some (sha256 token)) id
event_of token orders = event.Orders (Some (sha256 token))
event_of token (answer order outcome) = event.OrderAnswer (Some (sha256 token)) order outcome
event_of token (command key c) = event.Command (Some (sha256 token)) key c

-- ---- the same octets, part by part

-- a request line of HTTP/1.1
unfoldable pub request_line : List ℕ → List ℕ → List ℕ
request_line method target = method ++ (codes " " ++ (target ++ codes " HTTP/1.1\r\n"))

unfoldable pub field_line : List ℕ → List ℕ → List ℕ
field_line name value = name ++ (codes ": " ++ (value ++ codes "\r\n"))

-- the fields of each request
abbrev pub common_lines : List ℕ → List ℕ → List ℕ
common_lines authority token =
    field_line (codes "Host") authority ++ (field_line (codes "Authorization") (codes "Bearer " ++ token) ++ field_line (codes "Connection") (codes "close"))

-- what follows the common fields of a request with a body of JSON
abbrev pub body_part : List ℕ → List ℕ
body_part body =
    field_line (codes "Content-Type") (codes "application/json") ++ (field_line (codes "Content-Length") (decimal (length body)) ++ (codes "\r\n" ++ body))

-- a request without a body
abbrev pub get_of : List ℕ → List ℕ → List ℕ → List ℕ
get_of authority token target = request_line (codes "GET") target ++ (common_lines authority token ++ codes "\r\n")

-- a request with a body of JSON
abbrev pub post_of : List ℕ → List ℕ → List ℕ → List ℕ → List ℕ
post_of authority token target body = request_line (codes "POST") target ++ (common_lines authority token ++ body_part body)
