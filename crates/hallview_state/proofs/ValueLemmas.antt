-- Numbers have no line's end.
use Rattle.std.{proofs.{Common.{◌≡◌, ◌<◌, ◌^◌, ◌/◌, ◌%◌, ◌∙◌, ℕ, List, [], ◌∷◌, ◌++◌, true, false, refl, arith, div-le_self, mod-lt}, lemmas.{List.Folds.list_all-append, Bool.{and_from, not_from_false, false_from_ne_true, eqb-true}, Fmt.{decimal_is_IsNumeral}, Str.Parse.{digit_from_value}}}, specs.{Prelude.{codes, decimal, not, ◌==◌, nat_lt, if◌then◌else◌, Bool}, Str.Parse.AllDigits}}
use Rattle.hallview_state.specs.{Exposition.is_one_line, Told.{seconds_text, zeros}}

digits_are_one_line : (digits : List ℕ) → AllDigits 10 digits → is_one_line digits ≡ true
digits_are_one_line [] all = refl
digits_are_one_line (digit ∷ digits) all =
    and_from (not (digit == 10)) (is_one_line digits)
    (not_from_false (digit == 10) (false_from_ne_true (digit == 10) (λ e. omega (arith, digit_from_value digit all.0, eqb-true digit 10 e))))
    (digits_are_one_line digits all.1)

pub decimal_is_one_line : (number : ℕ) → number < 2 ^ 64 → is_one_line (decimal number) ≡ true
decimal_is_one_line number fits = digits_are_one_line (decimal number) (decimal_is_IsNumeral number fits).0.1

pub negative_is_one_line : (number : ℕ) → number < 2 ^ 64 → is_one_line (codes "-" ++ decimal number) ≡ true
negative_is_one_line number fits = decimal_is_one_line number fits

zeros_are_one_line : (rest : ℕ) → is_one_line (zeros rest) ≡ true
zeros_are_one_line rest = by_tests (nat_lt rest 10) (nat_lt rest 100)
  where
    by_tests : (a b : Bool) → is_one_line (if a then codes "00" else if b then codes "0" else codes "") ≡ true
    by_tests true b = refl
    by_tests false true = refl
    by_tests false false = refl

both : (one other : List ℕ) → is_one_line one ≡ true → is_one_line other ≡ true → is_one_line (one ++ other) ≡ true
both one other a b = list_all-append (λ octet. not (octet == 10)) one other ∙ and_from (is_one_line one) (is_one_line other) a b

thousand : 0 < 1000
thousand = omega arith

pub seconds_are_one_line : (milliseconds : ℕ) → milliseconds < 2 ^ 64 → is_one_line (seconds_text milliseconds) ≡ true
seconds_are_one_line milliseconds fits =
    let seconds = decimal (milliseconds / 1000) in
    let rest = milliseconds % 1000 in
    both (seconds ++ codes "." ++ zeros rest) (decimal rest)
    (both (seconds ++ codes ".") (zeros rest) (both seconds (codes ".") (decimal_is_one_line (milliseconds / 1000) (omega (arith, div-le_self milliseconds 1000))) refl) (zeros_are_one_line rest))
    (decimal_is_one_line rest (omega (arith, mod-lt milliseconds thousand)))
