use Rattle.std.{proofs.{Common.{◌≡◌, true, false, Some, None, if◌then◌else◌, refl, sym, ◌∙◌, ap, List, ℕ}, lemmas.Str.{IsUtf8-from_is_utf8, is_utf8-from_IsUtf8}}, specs.Str.{is_utf8, IsUtf8}}
use Rattle.hall_http.specs.Body.{text_of}
use Rattle.hall_http.proofs.body.text_of.Goals as goal

text_of-not : (octets : List ℕ) → ¬ (IsUtf8 octets) → text_of octets ≡ None
text_of-not octets broken =
    elim (is_utf8 octets) as (λ b. is_utf8 octets ≡ b → (if b then Some octets else None) ≡ None)
    [ true ↦ λ e. absurd (broken (IsUtf8-from_is_utf8 _ e)) | false ↦ λ e. refl ] refl

text_of-utf8 : (octets : List ℕ) → IsUtf8 octets → text_of octets ≡ Some octets
text_of-utf8 octets valid = rw (is_utf8-from_IsUtf8 octets valid) refl

pub returns-in-Ok : goal.returns-in-Ok
returns-in-Ok c = ap Some c.in-Ok.ensures.cases.0 ∙ sym (text_of-utf8 _ c.in-Ok.ensures.cases.1)

pub returns-in-Err : goal.returns-in-Err
returns-in-Err c = sym (text_of-not _ c.in-Err.ensures.cases.0)
