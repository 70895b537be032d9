-- Laws of octets as two digits, in either case.
use Rattle.std.{proofs.{Common.{◌≡◌, ℕ, ◌+◌, ◌*◌, ◌/◌, ◌%◌, ◌<◌, ◌≤◌, ◌==◌, true, Option, Some, None, refl, sym, ap, ◌∙◌, arith}, lemmas.{Bool.{agree_below_at, eqb-true, Decides.nat_tests}, Option.same_Some}}, specs.{Prelude.{nat_lt, if◌then◌else◌, option_map}, Char.to_ascii_lowercase}}
use Rattle.hex.{specs.Hex.hex_digit_value, proofs.HexLemmas.IsDigits-lower_digits}
use Rattle.pxe_vendor.specs.MacText.{digit, octet_of}

-- the code of the same digit
abbrev digit_code : ℕ → ℕ
digit_code value = if nat_lt value 10 then value + 48 else value + 87

digit-code : (value : ℕ) → value < 16 → digit value ≡ digit_code value
digit-code value h =
    eqb-true (digit value) (digit_code value) (agree_below_at (λ (v : ℕ). digit v == digit_code v) (λ (v : ℕ). true) 16 value refl h)

-- a digit has its value in either case
hex_digit_value-to_ascii_lowercase : (c : ℕ) → hex_digit_value (to_ascii_lowercase c) ≡ hex_digit_value c
hex_digit_value-to_ascii_lowercase c = grind (arith, nat_tests)

value-from_digit : (c value : ℕ) → value < 16 → to_ascii_lowercase c ≡ digit value → hex_digit_value c ≡ Some value
value-from_digit c value h is =
    sym (hex_digit_value-to_ascii_lowercase c) ∙ ap hex_digit_value is ∙ IsDigits-lower_digits value h

-- what a value says of the digit
record IsDigitOf (c value : ℕ) : Type 0 where
  small : value < 16
  code : to_ascii_lowercase c ≡ digit_code value

IsDigitOf-from_value : (c value : ℕ) → hex_digit_value c ≡ Some value → IsDigitOf c value
IsDigitOf-from_value c value h = record {
  small = grind (arith, nat_tests);
  code = grind (arith, nat_tests);
}

digit-from_value : (c value : ℕ) → hex_digit_value c ≡ Some value → (value < 16) × (to_ascii_lowercase c ≡ digit value)
digit-from_value c value h =
    let is = IsDigitOf-from_value c value h in
    (is.small, is.code ∙ sym (digit-code value is.small))

-- the octet's two digits, in either case
pub record AreDigitsOf (octet high low : ℕ) : Type 0 where
  pub small : octet < 256
  pub first : to_ascii_lowercase high ≡ digit (octet / 16)
  pub second : to_ascii_lowercase low ≡ digit (octet % 16)

pub octet_of-from_digits : (octet high low : ℕ) → AreDigitsOf octet high low → octet_of high low ≡ Some octet
octet_of-from_digits octet high low are =
    let small : octet < 256 = are.small in
    let h = value-from_digit high (octet / 16) (omega arith) are.first in
    let l = value-from_digit low (octet % 16) (omega arith) are.second in
    let whole : octet / 16 * 16 + octet % 16 ≡ octet = omega arith in
    rw (h, l, whole) refl

-- the values of two digits that make an octet
octet_of_parts : (high low : Option ℕ) (octet : ℕ) → (elim high as (λ _. Option ℕ) [ None ↦ None | Some h ↦ option_map (λ l. h * 16 + l) low ]) ≡ Some octet → (h : ℕ) × (l : ℕ) × (high ≡ Some h) × (low ≡ Some l) × (h * 16 + l ≡ octet)
octet_of_parts None low octet e = absurd cc
octet_of_parts (Some h) None octet e = absurd cc
octet_of_parts (Some h) (Some l) octet e = (h, l, refl, refl, same_Some _ _ e)

pub AreDigitsOf-from_octet_of : (octet high low : ℕ) → octet_of high low ≡ Some octet → AreDigitsOf octet high low
AreDigitsOf-from_octet_of octet high low e =
    let (h, l, hi, lo, whole) = octet_of_parts (hex_digit_value high) (hex_digit_value low) octet e in
    let (h_small, h_digit) = digit-from_value high h hi in
    let (l_small, l_digit) = digit-from_value low l lo in
    let first : octet / 16 ≡ h = omega arith in
    let second : octet % 16 ≡ l = omega arith in
    record {
      small = omega arith;
      first = rw first h_digit;
      second = rw second l_digit;
    }

-- ---- no digit is below 48

high-from_value : (c value : ℕ) → hex_digit_value c ≡ Some value → 48 ≤ c
high-from_value c value h = grind (arith, nat_tests)

pub octet_of-high : (octet high low : ℕ) → octet_of high low ≡ Some octet → (48 ≤ high) × (48 ≤ low)
octet_of-high octet high low e =
    let (h, l, hi, lo, whole) = octet_of_parts (hex_digit_value high) (hex_digit_value low) octet e in
    (high-from_value high h hi, high-from_value low l lo)
