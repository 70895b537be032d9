-- A record of texts is a text: quotes are put between characters only.
use Rattle.std.{proofs.{Common.{◌≡◌, ◌≤◌, ◌<◌, ◌+◌, ◌/◌, ◌%◌, ◌==◌, ◌&&◌, ℕ, Bool, true, false, if◌then◌else◌, cond, List, [], ◌∷◌, ◌++◌, refl, ap, subst, arith, ltb}, lemmas.{Bool.Decides.nat_tests, Str.{IsUtf8-append, IsUtf8-nil, IsUtf8-encode, encode_ascii}}}, specs.Prelude.IsUtf8}
use lib.Utf8.{encode, encodes, scalar, scalars, low_scalar}
use Rattle.csv.specs.{Records.AllText, Writing.{escaped, fields_text}}
use Rattle.hall_report.specs.{Prelude.{default_writer, field_text, is_blank, quoted, needs_quotes}, Export.record_text}

-- ---- a field between quotes

joined : (quote : Bool) (b : ℕ) (all one other : List ℕ) → all ≡ one ++ other
    → (if quote then 34 ∷ b ∷ all else b ∷ all) ≡ (if quote then 34 ∷ b ∷ one else b ∷ one) ++ other
joined true b all one other e = ap (λ (more : List ℕ). 34 ∷ b ∷ more) e
joined false b all one other e = ap (λ (more : List ℕ). b ∷ more) e

escaped-append : (xs ys : List ℕ) → escaped default_writer (xs ++ ys) ≡ escaped default_writer xs ++ escaped default_writer ys
unfolding escaped
escaped-append [] ys = refl
escaped-append (b ∷ xs) ys = joined (b == 34) b _ _ _ (escaped-append xs ys)

-- each byte is above a quote
AreHigh : List ℕ → Type 0
AreHigh [] = Unit {0}
AreHigh (b ∷ bs) = (35 ≤ b) × AreHigh bs

no_quote : (b : ℕ) → 35 ≤ b → (b == 34) ≡ false
no_quote b high = grind (arith, nat_tests)

escaped-high : (bs : List ℕ) → AreHigh bs → escaped default_writer bs ≡ bs
unfolding escaped AreHigh
escaped-high [] high = refl
escaped-high (b ∷ bs) high = rw (no_quote b high.0) (ap (λ (more : List ℕ). b ∷ more) (escaped-high bs high.1))

high_bytes : (two three : Bool) (c : ℕ) → AreHigh (cond two ((192 + c / 64) ∷ (128 + c % 64) ∷ []) (cond three ((224 + c / 4096) ∷ (128 + c / 64 % 64) ∷ (128 + c % 64) ∷ [])
    ((240 + c / 262144) ∷ (128 + c / 4096 % 64) ∷ (128 + c / 64 % 64) ∷ (128 + c % 64) ∷ [])))
unfolding AreHigh
high_bytes true three c = (omega arith, (omega arith, tt))
high_bytes false true c = (omega arith, (omega arith, (omega arith, tt)))
high_bytes false false c = (omega arith, (omega arith, (omega arith, (omega arith, tt))))

encode-high : (c : ℕ) → ltb c 128 ≡ false → AreHigh (encode c)
unfolding encode
encode-high c wide = rw wide (high_bytes (ltb c 2048) (ltb c 65536) c)

octet_is_text : (c : ℕ) → c < 128 → IsUtf8 (c ∷ [])
octet_is_text c small = subst IsUtf8 (encode_ascii c small) (IsUtf8-encode c (low_scalar c (omega arith)))

either : (b : Bool) (x y : List ℕ) → IsUtf8 x → IsUtf8 y → IsUtf8 (if b then x else y)
either true x y one other = one
either false x y one other = other

escaped_octet : (c : ℕ) → c < 128 → IsUtf8 (escaped default_writer (c ∷ []))
unfolding escaped
escaped_octet c small =
    either (c == 34) (34 ∷ c ∷ []) (c ∷ []) (IsUtf8-append (34 ∷ []) (c ∷ []) (octet_is_text 34 (omega arith)) (octet_is_text c small)) (octet_is_text c small)

escaped_char : (c : ℕ) → scalar c ≡ true → (wide : Bool) → ltb c 128 ≡ wide → IsUtf8 (escaped default_writer (encode c))
escaped_char c is_char true e = rw (encode_ascii c (grind (arith, nat_tests))) (escaped_octet c (grind (arith, nat_tests)))
escaped_char c is_char false e = rw (escaped-high (encode c) (encode-high c e)) (IsUtf8-encode c is_char)

both : (a b : Bool) → (a && b) ≡ true → (a ≡ true) × (b ≡ true)
both true b e = (refl, e)
both false b e = cc

escaped_chars : (cs : List ℕ) → scalars cs ≡ true → IsUtf8 (escaped default_writer (encodes cs))
unfolding escaped
escaped_chars [] e = IsUtf8-nil
escaped_chars (c ∷ cs) e =
    let parts = both (scalar c) (scalars cs) e in
    rw (escaped-append (encode c) (encodes cs)) (IsUtf8-append _ _ (escaped_char c parts.0 (ltb c 128) refl) (escaped_chars cs parts.1))

escaped_text : (field : List ℕ) → IsUtf8 field → IsUtf8 (escaped default_writer field)
escaped_text field text = subst (λ bytes. IsUtf8 (escaped default_writer bytes)) text.1.1 (escaped_chars text.0 text.1.0)

-- ---- fields and records

quoted_text : (field : List ℕ) → IsUtf8 field → IsUtf8 (quoted default_writer field)
quoted_text field text =
    IsUtf8-append (34 ∷ []) (escaped default_writer field ++ (34 ∷ [])) (octet_is_text 34 (omega arith))
    (IsUtf8-append (escaped default_writer field) (34 ∷ []) (escaped_text field text) (octet_is_text 34 (omega arith)))

field_is_text : (field : List ℕ) → IsUtf8 field → IsUtf8 (field_text default_writer field)
field_is_text field text = either (needs_quotes default_writer field) (quoted default_writer field) field (quoted_text field text) text

fields_are_text : (fields : List (List ℕ)) → AllText fields → IsUtf8 (fields_text default_writer fields)
unfolding AllText fields_text
fields_are_text [] texts = IsUtf8-nil
fields_are_text (field ∷ later) texts =
    IsUtf8-append (44 ∷ []) (field_text default_writer field ++ fields_text default_writer later) (octet_is_text 44 (omega arith))
    (IsUtf8-append (field_text default_writer field) (fields_text default_writer later) (field_is_text field texts.0) (fields_are_text later texts.1))

end_is_text : (blank : Bool) → IsUtf8 ((if blank then 34 ∷ 34 ∷ [] else []) ++ (10 ∷ []))
end_is_text blank =
    IsUtf8-append (if blank then 34 ∷ 34 ∷ [] else []) (10 ∷ [])
    (either blank (34 ∷ 34 ∷ []) [] (IsUtf8-append (34 ∷ []) (34 ∷ []) (octet_is_text 34 (omega arith)) (octet_is_text 34 (omega arith))) IsUtf8-nil)
    (octet_is_text 10 (omega arith))

pub record_is_text : (fields : List (List ℕ)) → AllText fields → IsUtf8 (record_text fields)
unfolding AllText record_text
record_is_text [] texts = end_is_text (is_blank default_writer [])
record_is_text (field ∷ later) texts =
    IsUtf8-append (field_text default_writer field ++ fields_text default_writer later) _
    (IsUtf8-append (field_text default_writer field) (fields_text default_writer later) (field_is_text field texts.0) (fields_are_text later texts.1))
    (end_is_text (is_blank default_writer (field ∷ later)))
