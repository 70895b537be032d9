-- Laws of hardware addresses as text: `mac_of` finds the octets of each address, and of no other text.
use Rattle.std.{proofs.{Common.{lit<, inl, inr, ◌≡◌, ℕ, zero, suc, ◌+◌, ◌*◌, ◌/◌, ◌%◌, ◌<◌, ◌≤◌, ◌==◌, true, List, [], ◌∷◌, length, Option, Some, None, refl, sym, ap, ◌∙◌, arith}, lemmas.{Bool.{cases_eq, eq-eqb, ne_eqb, agree_below_at, eqb-true, Decides.nat_tests}, List.{length-map, Elements.{All-nil, All-cons, All-tail}}, Option.same_Some}}, specs.{Prelude.All, Char.to_ascii_lowercase, Str.str_to_ascii_lowercase}}
use Rattle.hex.specs.Hex.{IsBytes, encode_with}
use Rattle.pxe_vendor.specs.{MacText.{IsMacText, digit, mac_text, more_text, mac_of, more_octets, octet_of, octet_then}, DigitLaws.{AreDigitsOf, octet_of-from_digits, AreDigitsOf-from_octet_of, octet_of-high}}

-- ---- the text of octets, each with a colon before it

pub mac_text-first : (octet : ℕ) (octets : List ℕ) → mac_text (octet ∷ octets) ≡ digit (octet / 16) ∷ digit (octet % 16) ∷ more_text octets
unfolding encode_with
mac_text-first octet [] = refl
mac_text-first octet (next ∷ octets) = ap (λ (text : List ℕ). digit (octet / 16) ∷ digit (octet % 16) ∷ 58 ∷ text) (mac_text-first next octets)

length-more_text : (octets : List ℕ) → length (more_text octets) ≡ 3 * length octets
length-more_text [] = refl
length-more_text (octet ∷ octets) = omega (arith, length-more_text octets)

-- ---- octets after colons

colon-from_lower : (c : ℕ) → to_ascii_lowercase c ≡ 58 → c ≡ 58
colon-from_lower c e = grind (arith, nat_tests)

lower-colon : (c : ℕ) → c ≡ 58 → to_ascii_lowercase c ≡ 58
lower-colon c e = rw e refl

IsBytes-cons : (octet : ℕ) (octets : List ℕ) → octet < 256 → IsBytes octets → IsBytes (octet ∷ octets)
IsBytes-cons octet octets h hs zero = h
IsBytes-cons octet octets h hs (suc i) = hs i

IsBytes-tail : (octet : ℕ) (octets : List ℕ) → IsBytes (octet ∷ octets) → IsBytes octets
IsBytes-tail octet octets h i = h (suc i)

three_same : (a b c p q r : ℕ) (xs ys : List ℕ) → a ∷ b ∷ c ∷ xs ≡ p ∷ q ∷ r ∷ ys → (a ≡ p) × (b ≡ q) × (c ≡ r) × (xs ≡ ys)
three_same a b c p q r xs ys e = (cc, cc, cc, cc)

-- an octet and the octets after it, where both are found
octet_then-some : (octet : Option ℕ) (others : Option (List ℕ)) (octets : List ℕ) → octet_then octet others ≡ Some octets → (first : ℕ) × (rest : List ℕ) × (octet ≡ Some first) × (others ≡ Some rest) × (first ∷ rest ≡ octets)
octet_then-some None others octets e = absurd cc
octet_then-some (Some first) None octets e = absurd cc
octet_then-some (Some first) (Some rest) octets e = (first, rest, refl, refl, same_Some _ _ e)

pub more_octets-pair : (colon high low : ℕ) (rest : List ℕ) → colon ≡ 58 → more_octets (colon ∷ high ∷ low ∷ rest) ≡ octet_then (octet_of high low) (more_octets rest)
unfolding more_octets
more_octets-pair colon high low rest e = rw (eq-eqb colon 58 e) refl

pub more_octets-other : (colon high low : ℕ) (rest : List ℕ) → (colon ≡ 58 → ⊥) → more_octets (colon ∷ high ∷ low ∷ rest) ≡ None
unfolding more_octets
more_octets-other colon high low rest e = rw (ne_eqb colon 58 e) refl

more_octets-from_text : (text octets : List ℕ) → IsBytes octets → str_to_ascii_lowercase text ≡ more_text octets → more_octets text ≡ Some octets
unfolding more_octets
more_octets-from_text [] [] h e = refl
more_octets-from_text (a ∷ []) (octet ∷ octets) h e = absurd cc
more_octets-from_text (a ∷ b ∷ []) (octet ∷ octets) h e = absurd cc
more_octets-from_text (a ∷ b ∷ c ∷ text) (octet ∷ octets) h e =
    let (colon, high, low, rest) = three_same _ _ _ _ _ _ _ _ e in
    let first = octet_of-from_digits octet b c (record { small = h 0; first = high; second = low }) in
    more_octets-pair a b c text (colon-from_lower a colon) ∙ rw (first, more_octets-from_text text octets (IsBytes-tail octet octets h) rest) refl
more_octets-from_text text octets h e = absurd cc

-- what is known of octets after colons
record IsMoreText (text octets : List ℕ) : Type 0 where
  long : length text ≡ 3 * length octets
  small : IsBytes octets
  written : str_to_ascii_lowercase text ≡ more_text octets

none : IsMoreText [] []
none = record { long = refl; small = λ i. lit< tt; written = refl }

-- one more octet before the others
IsMoreText-more : (a b c octet : ℕ) (text rest octets : List ℕ) → a ≡ 58 → AreDigitsOf octet b c → IsMoreText text rest → octet ∷ rest ≡ octets → IsMoreText (a ∷ b ∷ c ∷ text) octets
IsMoreText-more a b c octet text rest octets colon are more same =
    let long : length text ≡ 3 * length rest = more.long in
    let whole : IsMoreText (a ∷ b ∷ c ∷ text) (octet ∷ rest) = record {
      long = omega arith;
      small = IsBytes-cons octet rest are.small more.small;
      written = rw (lower-colon a colon, are.first, are.second, more.written) refl;
    } in
    rw (← same) whole

IsMoreText-from_more_octets : (text octets : List ℕ) → more_octets text ≡ Some octets → IsMoreText text octets
unfolding more_octets
IsMoreText-from_more_octets [] octets e = let nothing = same_Some [] octets e in rw (← nothing) none
IsMoreText-from_more_octets (a ∷ []) octets e = absurd cc
IsMoreText-from_more_octets (a ∷ b ∷ []) octets e = absurd cc
IsMoreText-from_more_octets (a ∷ b ∷ c ∷ text) octets e =
    elim (cases_eq a 58) [
      | inl colon ↦
          let (octet, rest, first, more, same) = octet_then-some _ _ octets (sym (more_octets-pair a b c text colon) ∙ e) in
          IsMoreText-more a b c octet text rest octets colon (AreDigitsOf-from_octet_of octet b c first) (IsMoreText-from_more_octets text rest more) same
      | inr other ↦ absurd (let gone = sym (more_octets-other a b c text other) ∙ e in cc)
    ]

-- ---- the whole address

-- with a colon before it, the text of some octets is that of octets after colons
colon_first : (octets : List ℕ) → 0 < length octets → 58 ∷ mac_text octets ≡ more_text octets
colon_first [] some = absurd (omega arith)
colon_first (octet ∷ octets) some = ap (λ (text : List ℕ). 58 ∷ text) (mac_text-first octet octets)

length-mac_text : (octets : List ℕ) → 0 < length octets → length (mac_text octets) + 1 ≡ 3 * length octets
length-mac_text octets some = omega (arith, ap length (colon_first octets some), length-more_text octets)

pub length-IsMacText : (text octets : List ℕ) → IsMacText text octets → length text ≡ 17
length-IsMacText text octets is =
    let six = is.six in
    omega (arith, ap length is.written, length-map text to_ascii_lowercase, length-mac_text octets (omega arith))

pub mac_of-long : (text : List ℕ) → length text ≡ 17 → mac_of text ≡ more_octets (58 ∷ text)
unfolding mac_of
mac_of-long text long = rw (eq-eqb (length text) 17 long) refl

pub mac_of-other : (text : List ℕ) → (length text ≡ 17 → ⊥) → mac_of text ≡ None
unfolding mac_of
mac_of-other text other = rw (ne_eqb (length text) 17 other) refl

pub mac_of-from_IsMacText : (text octets : List ℕ) → IsMacText text octets → mac_of text ≡ Some octets
mac_of-from_IsMacText text octets is =
    let some : 0 < length octets = omega (arith, is.six) in
    mac_of-long text (length-IsMacText text octets is)
    ∙ more_octets-from_text (58 ∷ text) octets is.small (ap (λ (xs : List ℕ). 58 ∷ xs) is.written ∙ colon_first octets some)

without_colon : (text octets : List ℕ) → length text ≡ 17 → IsMoreText (58 ∷ text) octets → IsMacText text octets
without_colon text octets long more =
    let six : length octets ≡ 6 = omega (arith, more.long, long) in
    let same : 58 ∷ str_to_ascii_lowercase text ≡ 58 ∷ mac_text octets = more.written ∙ sym (colon_first octets (omega (arith, six))) in
    record { six = six; small = more.small; written = cc }

pub IsMacText-from_mac_of : (text octets : List ℕ) → mac_of text ≡ Some octets → IsMacText text octets
IsMacText-from_mac_of text octets e =
    elim (cases_eq (length text) 17) [
      | inl long ↦ without_colon text octets long (IsMoreText-from_more_octets (58 ∷ text) octets (sym (mac_of-long text long) ∙ e))
      | inr other ↦ absurd (let gone = sym (mac_of-other text other) ∙ e in cc)
    ]

-- ---- no character of an address is below 48, so none is a line feed

abbrev IsHigh : ℕ → Type 0
IsHigh c = 48 ≤ c

more_octets-high : (text octets : List ℕ) → more_octets text ≡ Some octets → All IsHigh text
unfolding more_octets
more_octets-high [] octets e = All-nil IsHigh
more_octets-high (a ∷ []) octets e = absurd cc
more_octets-high (a ∷ b ∷ []) octets e = absurd cc
more_octets-high (a ∷ b ∷ c ∷ text) octets e =
    elim (cases_eq a 58) [
      | inl colon ↦
          let (octet, rest, first, more, same) = octet_then-some _ _ octets (sym (more_octets-pair a b c text colon) ∙ e) in
          let (high, low) = octet_of-high octet b c first in
          let others = more_octets-high text rest more in
          All-cons IsHigh a (b ∷ c ∷ text) (omega arith) (All-cons IsHigh b (c ∷ text) high (All-cons IsHigh c text low others))
      | inr other ↦ absurd (let gone = sym (more_octets-other a b c text other) ∙ e in cc)
    ]

pub IsMacText-high : (text octets : List ℕ) → IsMacText text octets → All (λ c. 48 ≤ c) text
IsMacText-high text octets is =
    let read = sym (mac_of-long text (length-IsMacText text octets is)) ∙ mac_of-from_IsMacText text octets is in
    All-tail IsHigh 58 text (more_octets-high (58 ∷ text) octets read)

-- ---- what is printed is read again

digit-lower : (value : ℕ) → value < 16 → to_ascii_lowercase (digit value) ≡ digit value
digit-lower value h =
    eqb-true (to_ascii_lowercase (digit value)) (digit value) (agree_below_at (λ (v : ℕ). to_ascii_lowercase (digit v) == digit v) (λ (v : ℕ). true) 16 value refl h)

more_text-lower : (octets : List ℕ) → IsBytes octets → str_to_ascii_lowercase (more_text octets) ≡ more_text octets
more_text-lower [] small = refl
more_text-lower (octet ∷ octets) small =
    let high = digit-lower (octet / 16) (let s : octet < 256 = small 0 in omega arith) in
    let low = digit-lower (octet % 16) (let s : octet < 256 = small 0 in omega arith) in
    let others = more_text-lower octets (IsBytes-tail octet octets small) in
    rw (high, low, others) refl

mac_text-lower : (octets : List ℕ) → 0 < length octets → IsBytes octets → str_to_ascii_lowercase (mac_text octets) ≡ mac_text octets
mac_text-lower octets some small =
    let first = colon_first octets some in
    let same : 58 ∷ str_to_ascii_lowercase (mac_text octets) ≡ 58 ∷ mac_text octets =
    ap (λ (text : List ℕ). str_to_ascii_lowercase text) first ∙ more_text-lower octets small ∙ sym first in
    cc

pub IsMacText-mac_text : (octets : List ℕ) → length octets ≡ 6 → IsBytes octets → IsMacText (mac_text octets) octets
IsMacText-mac_text octets six small = record { six = six; small = small; written = mac_text-lower octets (omega (arith, six)) small }
