-- Laws of words, for the proofs of callers: which texts are words.
use Rattle.std.{specs.{Prelude.{◌≡◌, ℕ, ◌+◌, ◌^◌, ◌<◌, ◌≤◌, ◌==◌, ◌&&◌, ◌||◌, Bool, true, List, [], ◌∷◌, ◌++◌, length, nat_lt, nat_le, decimal}, List.list_all, Int.{IsInRange, is_in_range}, Char.{is_ascii_alphanumeric}, Str.Parse.AllDigits}, proofs.{Common.{refl, sym, subst, ◌∙◌, inl, inr, arith, length-append}, lemmas.{Bool.{false≢true, and_parts, and_from, or_left, or_cases, eqb-true, lt-ltb, le-leb}, List.Folds.list_all-append, Fmt.{decimal_is_IsNumeral, length-decimal-le}, Str.Parse.digit_from_value}}}
use Rattle.ipxe_script.specs.{Word.{is_first_octet, is_word_octet, is_word, is_uri, IsWord, IsUri, AreWordOctets}, declared.word.TheConstants.MAX_WORD_LEN}

-- a URI is a word
pub IsWord-from_IsUri : (text : List ℕ) → IsUri text → IsWord text
unfolding is_uri
IsWord-from_IsUri text h = (and_parts (is_word text) _ h).0

-- ---- octets that are characters of words

letter_or_digit : (octet : ℕ) → is_ascii_alphanumeric octet ≡ true → is_word_octet octet ≡ true
unfolding is_word_octet is_first_octet
letter_or_digit octet h = or_left (is_first_octet octet) _ (or_left (is_ascii_alphanumeric octet) _ h)

digit : (octet : ℕ) → IsInRange 48 57 octet → is_word_octet octet ≡ true
digit octet h =
    letter_or_digit octet (or_left (is_in_range 48 57 octet || is_in_range 65 90 octet) (is_in_range 97 122 octet)
    (or_left (is_in_range 48 57 octet) (is_in_range 65 90 octet) (and_from (nat_le 48 octet) (nat_le octet 57) (le-leb 48 octet h.0) (le-leb octet 57 h.1))))

host_octet : (octet : ℕ) → (is_ascii_alphanumeric octet || (octet == 45) || (octet == 46) || (octet == 58)) ≡ true → is_word_octet octet ≡ true
unfolding is_word_octet is_first_octet
host_octet octet h =
    elim (or_cases (is_ascii_alphanumeric octet || (octet == 45) || (octet == 46)) (octet == 58) h) [
      | inl h ↦ elim (or_cases (is_ascii_alphanumeric octet || (octet == 45)) (octet == 46) h) [
        | inl h ↦ elim (or_cases (is_ascii_alphanumeric octet) (octet == 45) h) [
          | inl h ↦ letter_or_digit octet h
          | inr is ↦ same 45 refl is
        ]
        | inr is ↦ same 46 refl is
      ]
      | inr is ↦ same 58 refl is
    ]
  where
    same : (other : ℕ) → is_word_octet other ≡ true → (octet == other) ≡ true → is_word_octet octet ≡ true
    same other passes is = subst (λ (n : ℕ). is_word_octet n ≡ true) (sym (eqb-true octet other is)) passes

-- ---- characters of words

-- a word has characters of words alone
pub AreWordOctets-from_IsWord : (text : List ℕ) → IsWord text → AreWordOctets text
unfolding is_word is_word_octet
AreWordOctets-from_IsWord [] h = absurd (false≢true h)
AreWordOctets-from_IsWord (first ∷ others) h =
    let parts = and_parts (is_first_octet first && list_all is_word_octet others) _ h in
    let both = and_parts (is_first_octet first) (list_all is_word_octet others) parts.0 in
    and_from (is_word_octet first) (list_all is_word_octet others) (or_left (is_first_octet first) _ both.0) both.1

-- one text after another
pub AreWordOctets-append : (text more : List ℕ) → AreWordOctets text → AreWordOctets more → AreWordOctets (text ++ more)
AreWordOctets-append text more h k = list_all-append is_word_octet text more ∙ and_from (list_all is_word_octet text) (list_all is_word_octet more) h k

-- octets that pass a test which only characters of words pass
pub AreWordOctets-from_test : (test : ℕ → Bool) → ((octet : ℕ) → test octet ≡ true → is_word_octet octet ≡ true) → (text : List ℕ) → list_all test text ≡ true → AreWordOctets text
AreWordOctets-from_test test each [] h = refl
AreWordOctets-from_test test each (octet ∷ text) h =
    let parts = and_parts (test octet) (list_all test text) h in
    and_from (is_word_octet octet) (list_all is_word_octet text) (each octet parts.0) (AreWordOctets-from_test test each text parts.1)

-- letters, digits, `-`, `.` and `:`, as in a host with a port
pub AreWordOctets-host : (text : List ℕ) → list_all (λ octet. is_ascii_alphanumeric octet || (octet == 45) || (octet == 46) || (octet == 58)) text ≡ true → AreWordOctets text
AreWordOctets-host = AreWordOctets-from_test (λ octet. is_ascii_alphanumeric octet || (octet == 45) || (octet == 46) || (octet == 58)) host_octet

AreWordOctets-digits : (text : List ℕ) → AllDigits 10 text → AreWordOctets text
AreWordOctets-digits [] h = refl
AreWordOctets-digits (octet ∷ text) h = and_from (is_word_octet octet) (list_all is_word_octet text) (digit octet (digit_from_value octet h.0)) (AreWordOctets-digits text h.1)

-- a number in decimal
pub AreWordOctets-decimal : (n : ℕ) → n < 2 ^ 64 → AreWordOctets (decimal n)
AreWordOctets-decimal n h = AreWordOctets-digits (decimal n) (decimal_is_IsNumeral n h).0.1

-- ---- lengths

few_more : (first : ℕ) (others more : List ℕ) → length (first ∷ others) + length more ≤ MAX_WORD_LEN → nat_lt (length (others ++ more)) MAX_WORD_LEN ≡ true
few_more first others more fits = lt-ltb (length (others ++ more)) MAX_WORD_LEN (omega (arith, length-append others more))

decimal_fits : (text : List ℕ) (n : ℕ) → n < 2 ^ 64 → length text + 20 ≤ MAX_WORD_LEN → length text + length (decimal n) ≤ MAX_WORD_LEN
decimal_fits text n small fits =
    let few : length (decimal n) ≤ 20 = length-decimal-le 20 n (omega arith) (omega arith) small in
    omega arith

-- ---- words

-- a word with more characters of words after it
pub IsWord-append : (text more : List ℕ) → IsWord text → AreWordOctets more → length text + length more ≤ MAX_WORD_LEN → IsWord (text ++ more)
unfolding is_word
IsWord-append [] more h k fits = absurd (false≢true h)
IsWord-append (first ∷ others) more h k fits =
    let parts = and_parts (is_first_octet first && list_all is_word_octet others) _ h in
    let both = and_parts (is_first_octet first) (list_all is_word_octet others) parts.0 in
    and_from (is_first_octet first && list_all is_word_octet (others ++ more)) _
    (and_from (is_first_octet first) (list_all is_word_octet (others ++ more)) both.0 (AreWordOctets-append others more both.1 k))
    (few_more first others more fits)

-- a word with a number in decimal after it, which has at most 20 digits
pub IsWord-append-decimal : (text : List ℕ) (n : ℕ) → IsWord text → n < 2 ^ 64 → length text + 20 ≤ MAX_WORD_LEN → IsWord (text ++ decimal n)
IsWord-append-decimal text n h small fits = IsWord-append text (decimal n) h (AreWordOctets-decimal n small) (decimal_fits text n small fits)
