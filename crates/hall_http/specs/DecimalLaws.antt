-- Laws of numbers in fields and targets, for the proofs of callers: decimal digits are read as the number that they write.
use Rattle.std.{proofs.{Common.{◌≡◌, ◌<◌, ◌≤◌, ◌^◌, ℕ, List, Bool, true, false, length, refl, arith}, lemmas.{Bool.{and_parts, and_from, le-leb, leb-true, false_from_ne_true, eqb-true}, Fmt.{decimal_nonempty, digits_value-decimal, digits_decimal, length-decimal-le, first_decimal}, Str.Parse.{IsNumeralModel, IsDigitsTest, numerals_by_fold}}}, specs.{Prelude.{decimal, nat_le, ◌==◌, ◌||◌, not, Some, Ok, slice_index}, List.list_all, Char.is_ascii_digit}}
use Rattle.hall_http.specs.{Prelude.{IsNumber, number_of_text, decimal_after, decimal_value}, BodyLaws.number_is, Answer.◌>>=◌, Fields.{length_of, within_limit}}

digits_test : IsDigitsTest (λ ds. list_all is_ascii_digit ds ≡ true)
digits_test = record {
  empty = refl;
  parts = λ c cs e. let k = and_parts (is_ascii_digit c) (list_all is_ascii_digit cs) e in
      let m = and_parts (nat_le 48 c) (nat_le c 57) k.0 in
      ((leb-true 48 c m.0, leb-true c 57 m.1), k.1);
  more = λ c cs k e. and_from (is_ascii_digit c) (list_all is_ascii_digit cs) (and_from (nat_le 48 c) (nat_le c 57) (le-leb 48 c k.0) (le-leb c 57 k.1)) e;
}

numerals : IsNumeralModel (λ ds. list_all is_ascii_digit ds ≡ true) decimal_value
numerals = numerals_by_fold (λ ds. list_all is_ascii_digit ds ≡ true) digits_test decimal_after (record { empty = λ n. refl; more = λ n c cs k. refl })

pub decimal_value-decimal : (n : ℕ) → n < 2 ^ 64 → decimal_value (decimal n) ≡ n
decimal_value-decimal n h = digits_value-decimal numerals n h

pub digits-decimal : (n : ℕ) → n < 2 ^ 64 → list_all is_ascii_digit (decimal n) ≡ true
digits-decimal n h = digits_decimal numerals n h

-- a Content-Length
pub length_is : (n : ℕ) → n ≤ 16384 → (length_of (Some (decimal n)) >>= within_limit) ≡ Ok n
length_is n h =
    let small : n < 2 ^ 64 = omega arith in
    rw (
      le-leb 1 (length (decimal n)) (decimal_nonempty n small),
      le-leb (length (decimal n)) 9 (at_most (length-decimal-le 5 n (omega arith) (omega arith) small)),
      digits-decimal n small,
      decimal_value-decimal n small,
      le-leb n 16384 h,
    ) refl
  where
    at_most : {m : ℕ} → m ≤ 5 → m ≤ 9
    at_most h = omega arith

front : (text : List ℕ) → (slice_index text 0 == 48) ≡ false → (length text == 1 || not (slice_index text 0 == 48)) ≡ true
front text h = rw h (either (length text == 1))
  where
    either : (b : Bool) → (b || true) ≡ true
    either true = refl
    either false = refl

-- a machine's number
pub number_of_text-decimal : (id : ℕ) → IsNumber id → number_of_text (decimal id) ≡ Some id
number_of_text-decimal id h =
    let small : id < 2 ^ 64 = omega arith in
    rw (
      le-leb 1 (length (decimal id)) (decimal_nonempty id small),
      le-leb (length (decimal id)) 16 (length-decimal-le 16 id (omega arith) (omega arith) small),
      digits-decimal id small,
      front (decimal id) (false_from_ne_true (slice_index (decimal id) 0 == 48) (λ e. omega (arith, eqb-true (slice_index (decimal id) 0) 48 e, first_decimal id (omega arith) small))),
      decimal_value-decimal id small,
      number_is id h,
    ) refl
