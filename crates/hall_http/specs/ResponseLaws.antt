-- Laws of responses, for the proofs of callers: their octets say the status, the kind and the body, and each answer by HTTP has a response.
use Rattle.std.{proofs.{Common.{◌≡◌, ◌<◌, ◌≤◌, ◌^◌, ℕ, List, [], ◌∷◌, ◌++◌, length, get_or, refl, sym, ap, ◌∙◌, arith, append_assoc}, lemmas.{List.append_cancel_left, Fmt.{decimal_is_IsNumeral, decimal_injective}}}, specs.{Prelude.{codes, decimal}, Char.digit_value, Str.Parse.AllDigits}}
use Rattle.hall_types.specs.{Refusal.refusal_row, declared.refusal.Refusal.TheVariants.BadRequest}
use Rattle.hall_events.specs.Reply.{reply_of}
use Rattle.hall_http.specs.{Prelude.{Schema, refusal_status, Refusal, Content, refused, stored, boot_file, nothing, BodyKind, Text, Json}, Response.{phrase_of, kind_text, status_line, type_line, length_line, last_lines, response, IsStatus, IsResponse, HasResponse}}

-- ---- what the octets say

-- digits end where another character stands
digits_end : (one other : List ℕ) (mark : ℕ) (rest after : List ℕ) → AllDigits 10 one → AllDigits 10 other → 10 ≤ digit_value mark
    → one ++ mark ∷ rest ≡ other ++ mark ∷ after → (one ≡ other) × (rest ≡ after)
digits_end [] [] mark rest after h g m e = (refl, cc)
digits_end [] (digit ∷ digits) mark rest after h g m e =
    let same : mark ≡ digit = ap (λ (xs : List ℕ). get_or xs 0 0) e in
    absurd (omega (arith, g.0, ap digit_value same))
digits_end (digit ∷ digits) [] mark rest after h g m e =
    let same : digit ≡ mark = ap (λ (xs : List ℕ). get_or xs 0 0) e in
    absurd (omega (arith, h.0, ap digit_value same))
digits_end (one ∷ ones) (other ∷ others) mark rest after h g m e =
    let tails : ones ++ mark ∷ rest ≡ others ++ mark ∷ after = cc in
    let same : one ≡ other = cc in
    let later = digits_end ones others mark rest after h.1 g.1 m tails in
    let digits = later.0 in
    (cc, later.1)

-- what follows the status, and what follows the kind
abbrev after_kind : List ℕ → List ℕ
after_kind body = codes "\r\nContent-Length: " ++ (decimal (length body) ++ (13 ∷ (codes "\nConnection: close\r\n\r\n" ++ body)))

abbrev after_status : ℕ → BodyKind → List ℕ → List ℕ
after_status status kind body = phrase_of status ++ (codes "\r\nContent-Type: " ++ (kind_text kind ++ after_kind body))

grouped : (a b c d e f g h i j k l body : List ℕ) → (a ++ b ++ c ++ d ++ e) ++ (f ++ g ++ h) ++ (i ++ j ++ k) ++ l ++ body
    ≡ a ++ (b ++ (c ++ (d ++ (e ++ (f ++ (g ++ (h ++ (i ++ (j ++ (k ++ (l ++ body)))))))))))
grouped a b c d e f g h i j k l body = simp append_assoc

parts : (status : ℕ) (kind : BodyKind) (body : List ℕ) → response status kind body ≡ codes "HTTP/1.1 " ++ (decimal status ++ (32 ∷ after_status status kind body))
unfolding status_line type_line length_line last_lines
parts status kind body =
    grouped (codes "HTTP/1.1 ") (decimal status) (codes " ") (phrase_of status) (codes "\r\n") (codes "Content-Type: ") (kind_text kind) (codes "\r\n")
    (codes "Content-Length: ") (decimal (length body)) (codes "\r\n") (codes "Connection: close\r\n\r\n") body

one_kind : (kind another : BodyKind) (rest after : List ℕ) → kind_text kind ++ rest ≡ kind_text another ++ after → (kind ≡ another) × (rest ≡ after)
unfolding kind_text
one_kind Text Text rest after e = (refl, append_cancel_left (codes "text/plain") _ _ e)
one_kind Json Json rest after e = (refl, append_cancel_left (codes "application/json") _ _ e)
one_kind Text Json rest after e = let h : 116 ≡ 97 = ap (λ (xs : List ℕ). get_or xs 0 0) e in absurd (omega (arith, h))
one_kind Json Text rest after e = let h : 97 ≡ 116 = ap (λ (xs : List ℕ). get_or xs 0 0) e in absurd (omega (arith, h))

one_body : (body text : List ℕ) → length body < 2 ^ 64 → length text < 2 ^ 64 → after_kind body ≡ after_kind text → body ≡ text
one_body body text h g e =
    let sizes = append_cancel_left (codes "\r\nContent-Length: ") _ _ e in
    let ends = digits_end (decimal (length body)) (decimal (length text)) 13 _ _ (decimal_is_IsNumeral (length body) h).0.1 (decimal_is_IsNumeral (length text) g).0.1 (omega arith) sizes in
    append_cancel_left (codes "\nConnection: close\r\n\r\n") _ _ ends.1

-- responses with the same octets have the same parts
pub one_response : (status other : ℕ) (kind another : BodyKind) (body text : List ℕ) → status < 2 ^ 64 → other < 2 ^ 64
    → length body < 2 ^ 64 → length text < 2 ^ 64 → response status kind body ≡ response other another text
    → (status ≡ other) × (kind ≡ another) × (body ≡ text)
one_response status other kind another body text s o h g e =
    let whole = append_cancel_left (codes "HTTP/1.1 ") _ _ (sym (parts status kind body) ∙ e ∙ parts other another text) in
    let ends = digits_end (decimal status) (decimal other) 32 _ _ (decimal_is_IsNumeral status s).0.1 (decimal_is_IsNumeral other o).0.1 (omega arith) whole in
    let same : status ≡ other = decimal_injective status other s o ends.0 in
    let phrases : after_status status kind body ≡ after_status status another text =
    ends.1 ∙ ap (λ (n : ℕ). after_status n another text) (sym same) in
    let kinds = append_cancel_left (codes "\r\nContent-Type: ") _ _ (append_cancel_left (phrase_of status) _ _ phrases) in
    let found = one_kind kind another (after_kind body) (after_kind text) kinds in
    (same, found.0, one_body body text h g found.1)

-- ---- which answers have a response

pub refusal_has_status : (refusal : Refusal) → IsStatus (refusal_status refusal)
unfolding refusal_row
refusal_has_status BadRequest = refl
refusal_has_status refusal = refl

pub answer_has_response : (schema : Schema) (content : Content) → HasResponse content → IsResponse (reply_of schema content)
unfolding reply_of
answer_has_response schema (refused refusal) h = refusal_has_status refusal
answer_has_response schema (stored status body) h = h
answer_has_response schema (boot_file file) h = absurd h
answer_has_response schema nothing h = absurd h
answer_has_response schema other h = refl
