-- Laws of requests part by part: the parts that are written one after another are the whole.
use Rattle.std.{proofs.Common.{◌≡◌, ℕ, List, [], ◌++◌, length, refl, ap, ◌∙◌, append_assoc, append-nil}, specs.Prelude.{codes, decimal, flat_map}}
use Rattle.httparse.specs.Grammar.{print_request}
use Rattle.hallctl_requests.specs.{Prelude.{print_field, answer_text, request_text, HallCommand, Outcome}, Request.{Question, machines, machine, orders, answer, command, body_fields, body_of, fields_of, method_of, target_of, request_of, request_line, field_line, common_lines, json_fields, body_part, get_of, post_of}}

three_then : (x y z more rest : List ℕ) → (x ++ (y ++ (z ++ more))) ++ rest ≡ (x ++ (y ++ z)) ++ (more ++ rest)
three_then x y z more rest = simp append_assoc

-- the fields of each request, and then more
fields_then : (authority token : List ℕ) (question : Question) (rest : List ℕ)
    → flat_map print_field (fields_of authority token question) ++ rest ≡ common_lines authority token ++ (flat_map print_field (body_fields question) ++ rest)
unfolding field_line
fields_then authority token question rest =
    three_then (field_line (codes "Host") authority) (field_line (codes "Authorization") (codes "Bearer " ++ token)) (field_line (codes "Connection") (codes "close"))
    (flat_map print_field (body_fields question)) rest

grouped : (method space target version end fields last body : List ℕ)
    → ((((method ++ (space ++ target)) ++ (space ++ version)) ++ end) ++ (fields ++ last)) ++ body ≡ (method ++ (space ++ (target ++ (space ++ (version ++ end))))) ++ (fields ++ (last ++ body))
grouped method space target version end fields last body = simp append_assoc

-- a request is its line, its fields, an empty line and its body
whole : (authority token : List ℕ) (question : Question) → request_of authority token question ≡
    request_line (method_of question) (target_of question) ++ (common_lines authority token ++ (flat_map print_field (body_fields question) ++ (codes "\r\n" ++ body_of question)))
unfolding request_of print_request request_line
whole authority token question =
    let fields = flat_map print_field (fields_of authority token question) in
    grouped (method_of question) (codes " ") (target_of question) (codes "HTTP/1.1") (codes "\r\n") fields (codes "\r\n") (body_of question)
    ∙ ap (λ (xs : List ℕ). request_line (method_of question) (target_of question) ++ xs) (fields_then authority token question (codes "\r\n" ++ body_of question))

pub machines_parts : (authority token : List ℕ) → request_of authority token machines ≡ get_of authority token (codes "/machines")
machines_parts authority token = whole authority token machines

pub machine_parts : (authority token : List ℕ) (id : ℕ) → request_of authority token (machine id) ≡ get_of authority token (codes "/machines/" ++ decimal id)
machine_parts authority token id = whole authority token (machine id)

pub orders_parts : (authority token : List ℕ) → request_of authority token orders ≡ get_of authority token (codes "/orders")
orders_parts authority token = whole authority token orders

two_then : (x y rest : List ℕ) → (x ++ (y ++ [])) ++ rest ≡ x ++ (y ++ rest)
two_then x y rest = simp (append_assoc, append-nil) refl

-- a request with a body of JSON
posted : (target common body : List ℕ)
    → request_line (codes "POST") target ++ (common ++ (flat_map print_field (json_fields body) ++ (codes "\r\n" ++ body)))
    ≡ request_line (codes "POST") target ++ (common ++ body_part body)
unfolding field_line
posted target common body =
    ap (λ (xs : List ℕ). request_line (codes "POST") target ++ (common ++ xs))
    (two_then (field_line (codes "Content-Type") (codes "application/json")) (field_line (codes "Content-Length") (decimal (length body))) (codes "\r\n" ++ body))

pub answer_parts : (authority token : List ℕ) (order : ℕ) (outcome : Outcome)
    → request_of authority token (answer order outcome) ≡ post_of authority token (codes "/orders/" ++ decimal order) (answer_text outcome)
answer_parts authority token order outcome =
    whole authority token (answer order outcome) ∙ posted (codes "/orders/" ++ decimal order) (common_lines authority token) (answer_text outcome)

pub command_parts : (authority token key : List ℕ) (c : HallCommand) → request_of authority token (command key c) ≡ post_of authority token (codes "/commands") (request_text key c)
command_parts authority token key c = whole authority token (command key c) ∙ posted (codes "/commands") (common_lines authority token) (request_text key c)
