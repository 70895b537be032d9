-- Laws of the head that a client sends: it is a head of at most 8,192 octets with at most 64 fields.
use Rattle.std.{proofs.{Common.{◌≡◌, ◌+◌, ◌-◌, ◌<◌, ◌≤◌, ◌^◌, ℕ, suc, true, List, [], ◌∷◌, ◌++◌, length, refl, ap, ◌∙◌, arith, length-append, lit<, lit≤}, lemmas.{Bool.{and_parts, leb-true, lt-ltb, false_from_ne_true, eqb-true}, Fmt.{length-decimal-le, IsAscii-decimal}, List.{Elements.All-from_recursion, Sums.AllPass-from_list_all}, Str.{IsUtf8-from_ascii, IsUtf8-append}}, Math.Seq.{take-append-add, drop-append_seam}}, specs.{Prelude.{codes, decimal, take, nat_le, ◌==◌, flat_map, All, IsUtf8}, List.{AllByRecursion, list_all}}}
use Rattle.json.proofs.Printed.Utf8.{IsUtf8-are_ascii}
use Rattle.httparse.specs.Grammar.{print_request, is_token_byte}
use Rattle.hall_http.specs.BodyLaws.{short-answer_text, short-request_text}
use Rattle.hallctl_requests.specs.{Prelude.{Field, IsField, answer_text, IsRequestHead, ReadsRequest, IsToken, print_field, is_uri_byte, is_value_byte, IsNumber, request_text, front, after_head, is_visible}, FieldLaws.{visible_text, visible_is_value, visible-decimal, list_all_so}, Request.{Question, machines, machine, orders, answer, command, IsAuthority, IsBearerToken, IsSendable, field, json_fields, body_fields, fields_of, method_of, target_of, head_of, body_of, request_of}}

-- ---- the parts of the head

visible_is_uri : (b : ℕ) → is_visible b ≡ true → is_uri_byte b ≡ true
visible_is_uri b h =
    let parts = and_parts (nat_le 33 b) (nat_le b 126) h in
    let low = leb-true 33 b parts.0 in
    let high = leb-true b 126 parts.1 in
    rw (lt-ltb 32 b (omega (arith, low)), false_from_ne_true (b == 127) (λ e. omega (arith, high, eqb-true b 127 e))) refl

value_passes : (text : List ℕ) → list_all is_visible text ≡ true → list_all is_value_byte text ≡ true
value_passes text h = list_all_so is_visible is_value_byte visible_is_value text h

-- a field whose name is a token and whose value has no control octets
pub field_is : (name value : List ℕ) → 0 < length name → list_all is_token_byte name ≡ true → list_all is_value_byte value ≡ true → IsField (field name value)
field_is name value some token passes = record {
  name = (some, AllPass-from_list_all is_token_byte name token);
  raw = AllPass-from_list_all is_value_byte (32 ∷ value) passes;
}

pub close_is : IsField (field (codes "Connection") (codes "close"))
unfolding is_token_byte
close_is = field_is (codes "Connection") (codes "close") (lit< tt) refl refl

pub length_is : (n : ℕ) → n < 2 ^ 64 → IsField (field (codes "Content-Length") (decimal n))
unfolding is_token_byte
length_is n h = field_is (codes "Content-Length") (decimal n) (lit< tt) refl (value_passes (decimal n) (visible-decimal n h))

json_fields_are : (body : List ℕ) → length body ≤ 16384 → AllByRecursion IsField (json_fields body)
unfolding is_token_byte
json_fields_are body h = (field_is (codes "Content-Type") (codes "application/json") (lit< tt) refl refl, (length_is (length body) (omega arith), tt))

body_fields_are : (question : Question) → IsSendable question → AllByRecursion IsField (body_fields question)
body_fields_are (answer order outcome) h = json_fields_are (answer_text outcome) (short-answer_text outcome)
body_fields_are (command key c) h = json_fields_are (request_text key c) (short-request_text key c h.whole h.parts)
body_fields_are other h = tt

fields_are : (authority token : List ℕ) (question : Question) → IsAuthority authority → IsBearerToken token → IsSendable question
    → All IsField (fields_of authority token question)
unfolding is_token_byte
fields_are authority token question a t h =
    All-from_recursion IsField (fields_of authority token question) (
      field_is (codes "Host") authority (lit< tt) refl (value_passes authority (visible_text 255 authority a).visible),
      (
        field_is (codes "Authorization") (codes "Bearer " ++ token) (lit< tt) refl (value_passes token (visible_text 128 token t).visible),
        (close_is, body_fields_are question h),
      ),
    )

method_is : (question : Question) → IsToken (method_of question)
unfolding is_token_byte
method_is (answer order outcome) = (lit< tt, AllPass-from_list_all is_token_byte (codes "POST") refl)
method_is (command key c) = (lit< tt, AllPass-from_list_all is_token_byte (codes "POST") refl)
method_is other = (lit< tt, AllPass-from_list_all is_token_byte (codes "GET") refl)

number_fits : (n : ℕ) → IsNumber n → n < 2 ^ 64
number_fits n h = omega arith

-- a target's characters
target_passes : (question : Question) → IsSendable question → list_all is_uri_byte (target_of question) ≡ true
target_passes (machine id) h = list_all_so is_visible is_uri_byte visible_is_uri (decimal id) (visible-decimal id (number_fits id h))
target_passes (answer order outcome) h = list_all_so is_visible is_uri_byte visible_is_uri (decimal order) (visible-decimal order (number_fits order h))
target_passes other h = refl

target_text : (question : Question) → IsSendable question → IsUtf8 (target_of question)
target_text machines h = IsUtf8-are_ascii (codes "/machines") refl
target_text (machine id) h =
    IsUtf8-append (codes "/machines/") (decimal id) (IsUtf8-are_ascii (codes "/machines/") refl)
    (IsUtf8-from_ascii (decimal id) (IsAscii-decimal id (number_fits id h)))
target_text (answer order outcome) h =
    IsUtf8-append (codes "/orders/") (decimal order) (IsUtf8-are_ascii (codes "/orders/") refl)
    (IsUtf8-from_ascii (decimal order) (IsAscii-decimal order (number_fits order h)))
target_text orders h = IsUtf8-are_ascii (codes "/orders") refl
target_text (command key c) h = IsUtf8-are_ascii (codes "/commands") refl

target_some : (question : Question) → 0 < length (target_of question)
target_some (machine id) = omega arith
target_some (answer order outcome) = omega arith
target_some other = lit< tt

head_is : (authority token : List ℕ) (question : Question) → IsAuthority authority → IsBearerToken token → IsSendable question
    → IsRequestHead (head_of authority token question)
head_is authority token question a t h = record {
  method = method_is question;
  target = (target_some question, AllPass-from_list_all is_uri_byte (target_of question) (target_passes question h));
  target_text = target_text question h;
  minor = lit≤ tt;
  fields = fields_are authority token question a t h;
}

-- ---- its length

pub length-field : (name value : List ℕ) → length (print_field (field name value)) ≡ length name + length value + 4
length-field name value =
    length-append (name ++ (58 ∷ 32 ∷ value)) (13 ∷ 10 ∷ [])
    ∙ counted (length name) (length value) (length (name ++ (58 ∷ 32 ∷ value))) (length-append name (58 ∷ 32 ∷ value))
  where
    counted : (n v m : ℕ) → m ≡ n + suc (suc v) → m + 2 ≡ n + v + 4
    counted n v m h = omega arith

pub length-fields : (f : Field) (fs : List Field) → length (flat_map print_field (f ∷ fs)) ≡ length (print_field f) + length (flat_map print_field fs)
length-fields f fs = length-append (print_field f) (flat_map print_field fs)

-- a line of three words, the fields, and an empty line
pub length-head : (first second third fields : List ℕ)
    → length ((((first ++ (32 ∷ second)) ++ (32 ∷ third)) ++ (13 ∷ 10 ∷ [])) ++ (fields ++ (13 ∷ 10 ∷ [])))
    ≡ length first + length second + length third + length fields + 6
length-head first second third fields =
    let one = first ++ (32 ∷ second) in
    let two = one ++ (32 ∷ third) in
    let three = two ++ (13 ∷ 10 ∷ []) in
    let section = fields ++ (13 ∷ 10 ∷ []) in
    length-append three section
    ∙ counted (length first) (length second) (length third) (length fields) (length one) (length two) (length three) (length section)
    (length-append first (32 ∷ second)) (length-append one (32 ∷ third)) (length-append two (13 ∷ 10 ∷ [])) (length-append fields (13 ∷ 10 ∷ []))
  where
    counted : (a b c f one two three section : ℕ) → one ≡ a + suc b → two ≡ one + suc c → three ≡ two + 2 → section ≡ f + 2 → three + section ≡ a + b + c + f + 6
    counted a b c f one two three section h i j k = omega arith

json_fields_fit : (body : List ℕ) → length body ≤ 16384 → length (flat_map print_field (json_fields body)) ≤ 200
json_fields_fit body few =
    let n = length body in
    let kind = field (codes "Content-Type") (codes "application/json") in
    let size = field (codes "Content-Length") (decimal n) in
    omega (
      arith,
      length-fields kind (size ∷ []),
      length-fields size [],
      length-field (codes "Content-Type") (codes "application/json"),
      length-field (codes "Content-Length") (decimal n),
      length-decimal-le 5 n (omega arith) (omega arith) (omega arith),
    )

body_fields_fit : (question : Question) → IsSendable question → length (flat_map print_field (body_fields question)) ≤ 200
body_fields_fit (answer order outcome) h = json_fields_fit (answer_text outcome) (short-answer_text outcome)
body_fields_fit (command key c) h = json_fields_fit (request_text key c) (short-request_text key c h.whole h.parts)
body_fields_fit other h = lit≤ tt

fields_fit : (authority token : List ℕ) (question : Question) → IsAuthority authority → IsBearerToken token → IsSendable question
    → length (flat_map print_field (fields_of authority token question)) ≤ 1000
fields_fit authority token question a t h =
    let host = field (codes "Host") authority in
    let bearer = field (codes "Authorization") (codes "Bearer " ++ token) in
    let close = field (codes "Connection") (codes "close") in
    let more = body_fields question in
    omega (
      arith,
      (visible_text 255 authority a).few,
      (visible_text 128 token t).few,
      body_fields_fit question h,
      length-fields host (bearer ∷ close ∷ more),
      length-fields bearer (close ∷ more),
      length-fields close more,
      length-field (codes "Host") authority,
      length-field (codes "Authorization") (codes "Bearer " ++ token),
      length-field (codes "Connection") (codes "close"),
    )

method_fits : (question : Question) → length (method_of question) ≤ 4
method_fits (answer order outcome) = lit≤ tt
method_fits (command key c) = lit≤ tt
method_fits other = lit≤ tt

target_fits : (question : Question) → IsSendable question → length (target_of question) ≤ 26
target_fits (machine id) h = omega (arith, length-decimal-le 16 id (omega arith) (omega arith) (number_fits id h))
target_fits (answer order outcome) h = omega (arith, length-decimal-le 16 order (omega arith) (omega arith) (number_fits order h))
target_fits other h = lit≤ tt

head_fits : (authority token : List ℕ) (question : Question) → IsAuthority authority → IsBearerToken token → IsSendable question
    → length (print_request (head_of authority token question)) ≤ 8192
unfolding print_request
head_fits authority token question a t h =
    omega (
      arith,
      length-head (method_of question) (target_of question) (codes "HTTP/1.1") (flat_map print_field (fields_of authority token question)),
      method_fits question,
      target_fits question h,
      fields_fit authority token question a t h,
    )

pub few_fields : (authority token : List ℕ) (question : Question) → length (fields_of authority token question) ≤ 64
few_fields authority token (answer order outcome) = lit≤ tt
few_fields authority token (command key c) = lit≤ tt
few_fields authority token other = lit≤ tt

-- ---- what the desk finds

pub front_of : (n : ℕ) (head body : List ℕ) → length head ≤ n → take n (head ++ body) ≡ head ++ take (n - length head) body
front_of n head body h =
    let all : n ≡ length head + (n - length head) = omega arith in
    ap (λ (m : ℕ). take m (head ++ body)) all ∙ take-append-add head body (n - length head)

-- the head stands in the front
pub reads_head : (authority token : List ℕ) (question : Question) → IsAuthority authority → IsBearerToken token → IsSendable question
    → (rest : List ℕ) × ReadsRequest (front (request_of authority token question)) (head_of authority token question) rest
unfolding request_of
reads_head authority token question a t h = (
  take (8192 - length (print_request (head_of authority token question))) (body_of question),
  (
    head_is authority token question a t h,
    front_of 8192 (print_request (head_of authority token question)) (body_of question) (head_fits authority token question a t h),
  ),
)

-- the body follows it
pub after_head_is : (authority token : List ℕ) (question : Question) → after_head (head_of authority token question) (request_of authority token question) ≡ body_of question
unfolding request_of
after_head_is authority token question = drop-append_seam (print_request (head_of authority token question)) (body_of question)
