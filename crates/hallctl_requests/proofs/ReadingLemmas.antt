-- What a complete head says of all octets.
use Rattle.std.{proofs.{Common.{◌≡◌, ◌++◌, ℕ, List, length, take, drop, map, Result, Ok, Err, ap, sym, ◌∙◌, arith}, lemmas.List.take-append-drop}, specs.Prelude.IfOk}
use Rattle.hallctl_requests.specs.{Prelude.{status_code, header_bytes, name_and_value, HeaderSpan, ResponseSpans, FieldPair, front}, declared.response.{Response.Response, ResponseFault.ResponseFault}, Response.{HasHead, IsReading, answer_of}}

pub head_reads : (octets after : List ℕ) (headers : List HeaderSpan) (spans : ResponseSpans) (result : Result (ℕ × List ℕ) ResponseFault)
    → HasHead (front octets) headers spans → length headers ≡ 64 → after ≡ drop spans.len octets
    → result ≡ answer_of spans.code (map (header_bytes (front octets)) (take spans.headers headers)) after → IsReading octets result
head_reads octets after headers spans result found room rest_is is = record {
  head = λ head rest reads few.
      let at = found.each head rest reads (rw room few) in
      is
      ∙ ap (λ (code : ℕ). answer_of code (map (header_bytes (front octets)) (take spans.headers headers)) after) at.code
      ∙ ap (λ (fields : List FieldPair). answer_of (status_code head) fields after) at.fields
      ∙ ap (λ (others : List ℕ). answer_of (status_code head) (map name_and_value head.fields) others) rest_is
      ∙ ap (λ (n : ℕ). answer_of (status_code head) (map name_and_value head.fields) (drop n octets)) at.len;
  none = λ no. absurd (omega (arith, no found.some.0 found.some.1 found.some.2, found.some.3, room));
}

-- the body is what follows a head
pub rest_after : (octets after : List ℕ) (n : ℕ) (r : Result Response ResponseFault) → after ≡ drop n octets → IfOk r (λ response. response.body.now ≡ after)
    → IfOk r (λ response. (front : List ℕ) × (octets ≡ front ++ response.body.now))
rest_after octets after n (Ok response) is rest = (take n octets, sym (take-append-drop n octets) ∙ ap (λ (others : List ℕ). take n octets ++ others) (sym (rest ∙ is)))
rest_after octets after n (Err fault) is rest = tt
