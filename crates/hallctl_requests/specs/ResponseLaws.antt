-- Laws of responses: a client reads what the desk writes as its status and its body.
use Rattle.std.{proofs.{Common.{◌≡◌, ◌-◌, ◌<◌, ◌≤◌, ◌^◌, ℕ, Bool, true, false, List, [], ◌∷◌, ◌++◌, Some, map, length, refl, ap, subst, ◌∙◌, arith, append_assoc, append-nil, lit≤, lit<}, lemmas.{Bool.{and_parts, le-leb, leb-true, eqb-true, false_from_ne_true, ltb-true}, Fmt.{decimal_nonempty, decimal_is_IsNumeral, length-decimal-le}, List.{Elements.All-from_recursion, Sums.AllPass-from_list_all}}, Math.Seq.drop-append_seam}, specs.{Prelude.{codes, decimal, drop, take, flat_map, nat_le, nat_lt, ◌&&◌, ◌||◌, ◌==◌, All, Result, Ok}, Fmt.digits, List.{list_all, list_any}, Char.is_ascii_digit}}
use Rattle.httparse.specs.Grammar.{print_response, is_token_byte}
use Rattle.hall_http.specs.{Response.{phrase_of, kind_text, status_line, type_line, length_line, last_lines}, DecimalLaws.{digits-decimal, decimal_value-decimal}}
use Rattle.hallctl_requests.specs.{Prelude.{Field, ResponseHead, IsField, IsResponseHead, ReadsResponse, crlf, print_field, status_code, is_value_byte, name_and_value, BodyKind, Text, Json, IsStatus, statuses, response, front}, FieldLaws.trims_decimal, HeadLaws.{close_is, field_is, length_is, front_of, length-field, length-fields, length-head}, Request.field, Response.{IsReading, answer_of, size_of, sized}, declared.response.ResponseFault.ResponseFault}

-- ---- the statuses

one_of : (test : ℕ → Bool) (status : ℕ) (all : List ℕ) → list_any (λ one. one == status) all ≡ true → list_all test all ≡ true → test status ≡ true
one_of test status [] h g = absurd cc
one_of test status (one ∷ all) h g =
    let both = and_parts (test one) (list_all test all) g in
    by (one == status) refl h both.0 (one_of test status all) both.1
  where
    by : (b : Bool) → (one == status) ≡ b → (b || list_any (λ other. other == status) all) ≡ true → test one ≡ true
        → (list_any (λ other. other == status) all ≡ true → list_all test all ≡ true → test status ≡ true) → list_all test all ≡ true → test status ≡ true
    by true e h t later g = subst (λ (n : ℕ). test n ≡ true) (eqb-true one status e) t
    by false e h t later g = later h g

-- a status has three digits, and its phrase has no control octets
record IsGood (status : ℕ) : Type 0 where
  three : length (decimal status) ≡ 3
  phrase : list_all is_value_byte (phrase_of status) ≡ true
  few : length (phrase_of status) ≤ 40
  small : status < 1000

status_is : (status : ℕ) → IsStatus status → IsGood status
unfolding phrase_of digits
status_is status h = record {
  three = eqb-true (length (decimal status)) 3 (one_of (λ n. length (decimal n) == 3) status statuses h refl);
  phrase = one_of (λ n. list_all is_value_byte (phrase_of n)) status statuses h refl;
  few = leb-true (length (phrase_of status)) 40 (one_of (λ n. nat_le (length (phrase_of n)) 40) status statuses h refl);
  small = ltb-true status 1000 (one_of (λ n. nat_lt n 1000) status statuses h refl);
}

-- ---- the head

abbrev fields_of : BodyKind → List ℕ → List Field
fields_of kind body =
    field (codes "Content-Type") (kind_text kind) ∷ field (codes "Content-Length") (decimal (length body)) ∷ field (codes "Connection") (codes "close") ∷ []

abbrev head_of : ℕ → BodyKind → List ℕ → ResponseHead
head_of status kind body = record {
  blank = [];
  minor = 1;
  digits = decimal status;
  reason = Some (phrase_of status);
  line_end = crlf;
  fields = fields_of kind body;
  last = crlf;
}

kind_passes : (kind : BodyKind) → list_all is_value_byte (kind_text kind) ≡ true
unfolding kind_text
kind_passes Text = refl
kind_passes Json = refl

kind_fits : (kind : BodyKind) → length (kind_text kind) ≤ 16
unfolding kind_text
kind_fits Text = lit≤ tt
kind_fits Json = lit≤ tt

fields_are : (kind : BodyKind) (body : List ℕ) → length body < 2 ^ 64 → All IsField (fields_of kind body)
unfolding is_token_byte
fields_are kind body h =
    All-from_recursion IsField (fields_of kind body) (
      field_is (codes "Content-Type") (kind_text kind) (lit< tt) refl (kind_passes kind),
      (length_is (length body) h, (close_is, tt)),
    )

head_is : (status : ℕ) (kind : BodyKind) (body : List ℕ) → IsGood status → length body < 2 ^ 64 → IsResponseHead (head_of status kind body)
head_is status kind body good h = record {
  minor = lit≤ tt;
  digits = (good.three, AllPass-from_list_all is_ascii_digit (decimal status) (digits-decimal status (omega (arith, good.small))));
  reason = AllPass-from_list_all is_value_byte (phrase_of status) good.phrase;
  fields = fields_are kind body h;
}

fields_fit : (kind : BodyKind) (body : List ℕ) → length body < 10 ^ 15 → length (flat_map print_field (fields_of kind body)) ≤ 200
fields_fit kind body h =
    let type = field (codes "Content-Type") (kind_text kind) in
    let size = field (codes "Content-Length") (decimal (length body)) in
    let close = field (codes "Connection") (codes "close") in
    omega (
      arith,
      length-fields type (size ∷ close ∷ []),
      length-fields size (close ∷ []),
      length-fields close [],
      length-field (codes "Content-Type") (kind_text kind),
      length-field (codes "Content-Length") (decimal (length body)),
      length-field (codes "Connection") (codes "close"),
      kind_fits kind,
      length-decimal-le 15 (length body) (omega arith) h (omega arith),
    )

head_fits : (status : ℕ) (kind : BodyKind) (body : List ℕ) → IsGood status → length body < 10 ^ 15 → length (print_response (head_of status kind body)) ≤ 8192
unfolding print_response
head_fits status kind body good h =
    omega (arith, length-head (codes "HTTP/1.1") (decimal status) (phrase_of status) (flat_map print_field (fields_of kind body)), good.three, good.few, fields_fit kind body h)

grouped : (version digits space phrase end type size close body : List ℕ)
    → (((((((version ++ digits) ++ space) ++ phrase) ++ end) ++ type) ++ size) ++ (close ++ end)) ++ body
    ≡ ((((version ++ digits) ++ (space ++ phrase)) ++ end) ++ ((type ++ (size ++ (close ++ []))) ++ end)) ++ body
grouped version digits space phrase end type size close body = simp (append_assoc, append-nil)

-- a response is its head and its body
whole : (status : ℕ) (kind : BodyKind) (body : List ℕ) → response status kind body ≡ print_response (head_of status kind body) ++ body
unfolding status_line type_line length_line last_lines print_response
whole status kind body =
    grouped (codes "HTTP/1.1 ") (decimal status) (codes " ") (phrase_of status) (codes "\r\n") (print_field (field (codes "Content-Type") (kind_text kind)))
    (print_field (field (codes "Content-Length") (decimal (length body)))) (print_field (field (codes "Connection") (codes "close"))) body

-- ---- what is read

size_is : (n : ℕ) → n < 10 ^ 15 → size_of (Some (decimal n)) ≡ Some n
size_is n h =
    let small : n < 2 ^ 64 = omega arith in
    rw (
      le-leb 1 (length (decimal n)) (decimal_nonempty n small),
      le-leb (length (decimal n)) 15 (length-decimal-le 15 n (omega arith) h small),
      digits-decimal n small,
      decimal_value-decimal n small,
    ) refl

exactly : (status : ℕ) (body : List ℕ) → sized status (Some (length body)) body ≡ Ok (status, body)
exactly status body = rw (false_from_ne_true (nat_lt (length body) (length body)) (λ e. omega (arith, ltb-true (length body) (length body) e))) refl

answer_is : (status : ℕ) (kind : BodyKind) (body : List ℕ) → IsGood status → length body < 10 ^ 15
    → answer_of (status_code (head_of status kind body)) (map name_and_value (fields_of kind body)) body ≡ Ok (status, body)
answer_is status kind body good h =
    ap (λ (n : ℕ). answer_of n (map name_and_value (fields_of kind body)) body) (decimal_is_IsNumeral status (omega (arith, good.small))).1
    ∙ ap (λ (text : List ℕ). sized status (size_of (Some text)) body) (trims_decimal (length body) (omega (arith, h)))
    ∙ ap (λ size. sized status size body) (size_is (length body) h)
    ∙ exactly status body

-- the response of the desk is read as its status and its body
pub response_is_read : (octets : List ℕ) (result : Result (ℕ × List ℕ) ResponseFault) → IsReading octets result
    → (status : ℕ) (kind : BodyKind) (body : List ℕ) → IsStatus status → length body < 10 ^ 15 → octets ≡ response status kind body → result ≡ Ok (status, body)
response_is_read octets result is status kind body s h e =
    let good = status_is status s in
    let head = head_of status kind body in
    let split : octets ≡ print_response head ++ body = e ∙ whole status kind body in
    let reads : ReadsResponse (front octets) head (take (8192 - length (print_response head)) body) =
    (head_is status kind body good (omega (arith, h)), ap (λ (xs : List ℕ). take 8192 xs) split ∙ front_of 8192 (print_response head) body (head_fits status kind body good h)) in
    is.head head (take (8192 - length (print_response head)) body) reads (lit≤ tt)
    ∙ ap (λ (after : List ℕ). answer_of (status_code head) (map name_and_value (fields_of kind body)) after)
    (ap (λ (xs : List ℕ). drop (length (print_response head)) xs) split ∙ drop-append_seam (print_response head) body)
    ∙ answer_is status kind body good h
